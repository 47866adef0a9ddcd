-- Where items stand, as contracts see it.
use Rattle.std.specs.Prelude.{ℕ, List, [], Option, Some, None, option_map}
use Rattle.std.specs.Option.{option_map_or}
use Rattle.v_syntax.specs.declared.item.ParameterKind.{ParameterKind}
use Rattle.v_syntax.specs.declared.item.ParameterKind.TheVariants as parameter_kind
use Rattle.v_syntax.specs.ModuleTree.{PlainPorts}
use Rattle.v_sizes.specs.declared.meaning.Const.{Const}
use Rattle.v_hierarchy.specs.Headers.{port_names}
use Rattle.v_hierarchy.specs.Names.{Entry}
use Rattle.v_hierarchy.specs.Parameters.{Given, given}
use Rattle.v_hierarchy.specs.Items as items
use Rattle.v_scopes.specs.Units.{units_of}
use Rattle.v_connections.specs.declared.place.Place.{Place}
use Rattle.v_connections.specs.Headed.{header_of}

-- the ports of the module and the values given to its parameters; nothing in a generate block
abbrev pub header_at : Place → Option (PlainPorts × List Given)
header_at p = option_map (λ h. header_of h.now) p.header

-- a place, with the scopes around its own
abbrev pub place_of : Place → List (List Entry) → items.Place
place_of p outer = record { units = units_of p.units.now; levels = p.levels; path = p.path.now; outer = outer; header = header_at p }

-- the names of the module's header
abbrev pub ports_at : Place → List (List ℕ)
ports_at p = option_map_or (λ h. port_names h.0) (header_at p) []

-- the value that is given to a parameter from outside
abbrev pub outside_at : Place → ParameterKind → List ℕ → Option Const
outside_at p parameter_kind.Local name = None
outside_at p parameter_kind.Parameter name = option_map_or (λ h. given h.1 name) (header_at p) None
