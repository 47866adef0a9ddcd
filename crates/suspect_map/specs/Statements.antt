-- One suspect for each assignment of the text, with all its copies.
use Rattle.std.specs.Prelude.{ℕ, Option, Some, None, nat_eq}
use Rattle.design_core.specs.declared.place.Place.{Place}
use Rattle.design_core.specs.declared.place.PlaceKind.{PlaceKind}
use Rattle.design_core.specs.declared.place.PlaceKind.TheVariants as kind
use Rattle.suspect_map.specs.declared.label.Label.TheVariants as by
use Rattle.suspect_map.specs.Groups.{Grouping}

-- the text of an assignment, continuous or procedural
abbrev pub statement_key : Place → PlaceKind → Option ℕ
statement_key place kind.Assign = Some place.site
statement_key place kind.Step = Some place.site
statement_key place _ = None

abbrev pub statements : Grouping ℕ
statements = record { key = λ place. statement_key place place.kind; same = nat_eq; label = by.Module }
