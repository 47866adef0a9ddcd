-- One suspect for each condition of the text, that of an `if` or the subject of a `case`, with all its copies.
use Rattle.std.specs.Prelude.{ℕ, Option, Some, None, nat_eq}
use Rattle.design_core.specs.declared.place.Place.{Place}
use Rattle.design_core.specs.declared.place.PlaceKind.{PlaceKind}
use Rattle.design_core.specs.declared.place.PlaceKind.TheVariants as kind
use Rattle.suspect_map.specs.declared.label.Label.TheVariants as by
use Rattle.suspect_map.specs.Groups.{Grouping}

-- the text of a condition
abbrev pub condition_key : Place → PlaceKind → Option ℕ
condition_key place kind.Cond = Some place.site
condition_key place _ = None

abbrev pub conditions : Grouping ℕ
conditions = record { key = λ place. condition_key place place.kind; same = nat_eq; label = by.Module }
