-- Every name of a scope stands for something that a name can stand for; ranges have 1 to 128 bits.
use Rattle.std.specs.Prelude.{⊤, List, [], ◌∷◌, Option}
use Rattle.std.specs.Option.{option_map_or}
use Rattle.std.proofs.Props.{props}
use Rattle.v_sizes.specs.Context.{HasRange, IsScope}
use Rattle.v_sizes.specs.Standing.{IsScope-prop}
use Rattle.v_hierarchy.specs.declared.bounds.Bounds.{Bounds}
use Rattle.v_hierarchy.specs.declared.kind.Kind.{Kind}
use Rattle.v_hierarchy.specs.declared.kind.Kind.TheVariants as kind_case
use Rattle.v_hierarchy.specs.Constants.{width, scalar}
use Rattle.v_hierarchy.specs.Names.{Entry, look_in}

abbrev pub Stands : List Entry → Type 0
Stands names = IsScope (look_in (names ∷ []))

pub Stands-prop : (names : List Entry) → IsProp (Stands names)
Stands-prop names = IsScope-prop (look_in (names ∷ []))

-- a range of 1 to 128 bits, and the one of what may have none
abbrev pub IsRange : Bounds → Type 0
IsRange b = HasRange (width b) b.left b.right

abbrev pub IsRangeIf : Option Bounds → Type 0
IsRangeIf b = IsRange (option_map_or (λ x. x) b scalar)

-- the range of a parameter's type
abbrev pub IsKind : Kind → Type 0
IsKind kind_case.AsValue = ⊤
IsKind (kind_case.Typed signed b) = IsRangeIf b
