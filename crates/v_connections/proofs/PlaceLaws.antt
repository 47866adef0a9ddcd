-- The value that is given to a parameter from outside doesn't depend on the scopes around a place.
use Rattle.std.proofs.Common.{◌≡◌, ℕ, List, refl}
use Rattle.v_syntax.specs.declared.item.ParameterKind.{ParameterKind}
use Rattle.v_syntax.specs.declared.item.ParameterKind.TheVariants as parameter_kind
use Rattle.v_hierarchy.specs.Names.{Entry}
use Rattle.v_hierarchy.specs.Items.{outside_value}
use Rattle.v_connections.specs.declared.place.Place.{Place}
use Rattle.v_connections.specs.Places.{place_of, outside_at}

pub outside-at : (p : Place) (outer : List (List Entry)) (own : ParameterKind) (name : List ℕ) → outside_value (place_of p outer) own name ≡ outside_at p own name
outside-at p outer parameter_kind.Local name = refl
outside-at p outer parameter_kind.Parameter name = refl

pub ruleset outside_rules = (outside-at)
