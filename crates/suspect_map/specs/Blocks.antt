-- One suspect for each always block of the text, with all assignments in all its copies.
use Rattle.std.specs.Prelude.{ℕ, Option, Some, None, nat_eq}
use Rattle.design_core.specs.declared.place.Place.{Place}
use Rattle.design_core.specs.declared.place.PlaceKind.{PlaceKind}
use Rattle.design_core.specs.declared.place.PlaceKind.TheVariants as kind
use Rattle.suspect_map.specs.declared.label.Label.TheVariants as by
use Rattle.suspect_map.specs.Groups.{Grouping}

-- the always block of a procedural assignment
abbrev pub block_key : Place → PlaceKind → Option ℕ
block_key place kind.Step = Some place.home
block_key place _ = None

abbrev pub blocks : Grouping ℕ
blocks = record { key = λ place. block_key place place.kind; same = nat_eq; label = by.Module }
