-- One suspect for each module instance, with its output connections.
use Rattle.std.specs.Prelude.{ℕ, Option, Some, None, nat_eq}
use Rattle.design_core.specs.declared.place.Place.{Place}
use Rattle.design_core.specs.declared.place.PlaceKind.{PlaceKind}
use Rattle.design_core.specs.declared.place.PlaceKind.TheVariants as kind
use Rattle.suspect_map.specs.declared.label.Label.TheVariants as by
use Rattle.suspect_map.specs.Groups.{Grouping}

-- the module instance of an output connection
abbrev pub instance_key : Place → PlaceKind → Option ℕ
instance_key place kind.PortOut = Some place.copy
instance_key place _ = None

abbrev pub instance_outputs : Grouping ℕ
instance_outputs = record { key = λ place. instance_key place place.kind; same = nat_eq; label = by.Path }
