-- One suspect for each connection of an input port in the text, with all its copies.
use Rattle.std.specs.Prelude.{ℕ, Option, Some, None, nat_eq}
use Rattle.design_core.specs.declared.place.Place.{Place}
use Rattle.design_core.specs.declared.place.PlaceKind.{PlaceKind}
use Rattle.design_core.specs.declared.place.PlaceKind.TheVariants as kind
use Rattle.suspect_map.specs.declared.label.Label.TheVariants as by
use Rattle.suspect_map.specs.Groups.{Grouping}

-- the text of a connection
abbrev pub input_key : Place → PlaceKind → Option ℕ
input_key place kind.PortIn = Some place.site
input_key place _ = None

abbrev pub input_connections : Grouping ℕ
input_connections = record { key = λ place. input_key place place.kind; same = nat_eq; label = by.Module }
