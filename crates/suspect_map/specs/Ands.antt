-- One suspect for each AND of an AIGER file, each of which has a line of its own.
use Rattle.std.specs.Prelude.{ℕ, Option, Some, None, nat_eq}
use Rattle.design_core.specs.declared.place.Place.{Place}
use Rattle.design_core.specs.declared.place.PlaceKind.{PlaceKind}
use Rattle.design_core.specs.declared.place.PlaceKind.TheVariants as kind
use Rattle.suspect_map.specs.declared.label.Label.TheVariants as by
use Rattle.suspect_map.specs.Groups.{Grouping}

-- the line of an AND
abbrev pub and_key : Place → PlaceKind → Option ℕ
and_key place kind.And = Some place.site
and_key place _ = None

abbrev pub ands : Grouping ℕ
ands = record { key = λ place. and_key place place.kind; same = nat_eq; label = by.Path }
