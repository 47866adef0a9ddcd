-- One suspect for each module of the text that has a place, with all places whose text stands in it, but for conditions and
-- input connections.
use Rattle.std.specs.Prelude.{ℕ, List, Option, Some, None, nat_eq}
use Rattle.std.specs.Cmp.Lexicographic.{pointwise}
use Rattle.design_core.specs.declared.place.Place.{Place}
use Rattle.design_core.specs.declared.place.PlaceKind.{PlaceKind}
use Rattle.design_core.specs.declared.place.PlaceKind.TheVariants as kind
use Rattle.suspect_map.specs.declared.label.Label.TheVariants as by
use Rattle.suspect_map.specs.Groups.{Grouping}

-- the module of a place; of a condition or an input connection none
abbrev pub module_key : Place → PlaceKind → Option (List ℕ)
module_key place kind.Cond = None
module_key place kind.PortIn = None
module_key place _ = Some place.«module»

abbrev pub modules : Grouping (List ℕ)
modules = record { key = λ place. module_key place place.kind; same = pointwise nat_eq; label = by.Module }
