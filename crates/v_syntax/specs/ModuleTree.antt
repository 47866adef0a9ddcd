-- The tree of modules and of a whole text without where it lies in memory (IEEE 1364-2005, 12.1 to 12.3, A.1.1 to A.1.3).
use Rattle.std.specs.Prelude.{ℕ, ◌+◌, List, [], ◌∷◌, length, map, Option, option_map, Bool}
use Rattle.v_syntax.specs.declared.site.Site.{Site}
use Rattle.v_syntax.specs.declared.declaration.Identifier.{Identifier}
use Rattle.v_syntax.specs.declared.item.Direction.{Direction}
use Rattle.v_syntax.specs.declared.item.NetKind.{NetKind}
use Rattle.v_syntax.specs.declared.module.HeaderParameter.{HeaderParameter}
use Rattle.v_syntax.specs.declared.module.Port.{Port}
use Rattle.v_syntax.specs.declared.module.Port.TheVariants as port
use Rattle.v_syntax.specs.declared.module.Ports.{Ports}
use Rattle.v_syntax.specs.declared.module.Ports.TheVariants as ports
use Rattle.v_syntax.specs.declared.module.Module.{Module}
use Rattle.v_syntax.specs.declared.module.SourceTree.{SourceTree}
use Rattle.v_syntax.specs.Tree.{Tree, tree_of}
use Rattle.v_syntax.specs.PartTree.{PlainRange, range_of}
use Rattle.v_syntax.specs.ItemTree.{PlainParameterType, parameter_type_of, PlainItem, item_of}

-- a parameter of a module's header, and whether the word parameter stands before it
pub record PlainHeaderParameter : Type 0 where
  pub site : Site
  pub opens : Bool
  pub type_of : PlainParameterType
  pub name : Identifier
  pub value : Tree

-- a port that a module's header declares
pub data PlainPort : Type 0 where
  declared_port : Site → Direction → Option NetKind → Bool → Option PlainRange → Identifier → Option Tree → PlainPort
  same_port : Site → Identifier → Option Tree → PlainPort

-- the ports of a module's header
pub data PlainPorts : Type 0 where
  no_ports : PlainPorts
  name_ports : List Identifier → PlainPorts
  declared_ports : List PlainPort → PlainPorts

pub record PlainModule : Type 0 where
  pub site : Site
  pub name : Identifier
  pub parameters : List PlainHeaderParameter
  pub ports : PlainPorts
  pub items : List PlainItem

abbrev pub header_parameter_of : HeaderParameter → PlainHeaderParameter
header_parameter_of x = record { site = x.site; opens = x.opens; type_of = parameter_type_of x.type_of; name = x.name; value = tree_of x.value }

abbrev pub port_of : Port → PlainPort
port_of (port.Declared s direction net signed range name value) = declared_port s direction net signed (option_map range_of range) name (option_map tree_of value)
port_of (port.Same s name value) = same_port s name (option_map tree_of value)

abbrev pub ports_of : Ports → PlainPorts
ports_of ports.None = no_ports
ports_of (ports.Names names) = name_ports names.items
ports_of (ports.Declared xs) = declared_ports (map port_of xs.items)

-- the code's tree
abbrev pub module_of : Module → PlainModule
module_of x =
    record { site = x.site; name = x.name; parameters = map header_parameter_of x.parameters.items; ports = ports_of x.ports; items = map item_of x.items.items }

abbrev pub source_of : SourceTree → List PlainModule
source_of x = map module_of x.modules.items

-- how many ports a header has
abbrev pub count_ports : PlainPorts → ℕ
count_ports no_ports = 0
count_ports (name_ports names) = length names
count_ports (declared_ports ports) = length ports

-- how many modules, ports and items there are
abbrev pub parts_of : List PlainModule → ℕ
parts_of [] = 0
parts_of (m ∷ ms) = 1 + count_ports m.ports + length m.items + parts_of ms
