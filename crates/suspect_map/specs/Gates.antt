-- One suspect for each copy of a gate, with its outputs.
use Rattle.std.specs.Prelude.{ℕ, Option, Some, None, nat_eq}
use Rattle.design_core.specs.declared.place.Place.{Place}
use Rattle.design_core.specs.declared.place.PlaceKind.{PlaceKind}
use Rattle.design_core.specs.declared.place.PlaceKind.TheVariants as kind
use Rattle.suspect_map.specs.declared.label.Label.TheVariants as by
use Rattle.suspect_map.specs.Groups.{Grouping}

-- the copy of a gate
abbrev pub gate_key : Place → PlaceKind → Option ℕ
gate_key place kind.Gate = Some place.copy
gate_key place _ = None

abbrev pub gates : Grouping ℕ
gates = record { key = λ place. gate_key place place.kind; same = nat_eq; label = by.Path }
