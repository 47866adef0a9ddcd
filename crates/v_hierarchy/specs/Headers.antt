-- The ports of a module (IEEE 1364-2005, 12.3): those that its header declares, and those that its header names and its items
-- declare.
use Rattle.std.specs.Prelude.{⊤, ℕ, false, if◌then◌else◌, List, [], ◌∷◌, ◌++◌, map, Option, Some, None, Result, Ok, Err}
use Rattle.std.specs.List.{list_any}
use Rattle.v_syntax.specs.declared.declaration.Identifier.{Identifier}
use Rattle.v_syntax.specs.Tree.{Tree}
use Rattle.v_syntax.specs.ItemTree.{PlainItem, port_item, generate_item, Items, no_items, more_items, items_of}
use Rattle.v_syntax.specs.ModuleTree.{PlainPort, declared_port, same_port, PlainPorts, no_ports, name_ports, declared_ports, PlainModule}
use Rattle.v_hierarchy.specs.declared.error.ElabErr.{ElabErr}
use Rattle.v_hierarchy.specs.declared.error.ElabErr.TheVariants as fault
use Rattle.v_hierarchy.specs.Steps.{◌>>=◌, each}
use Rattle.v_hierarchy.specs.Constants.{bounds_if}
use Rattle.v_hierarchy.specs.declared.signal.Signal.{Signal}
use Rattle.v_hierarchy.specs.Names.{Entry, Standing, signal, same_name, declared, find, look_in}

-- a port of an instance, with the start value that its header gives it
pub record Port : Type 0 where
  pub name : Identifier
  pub signal : Signal
  pub start : Option Tree

-- ---- names alone, which items declare
abbrev mutual
  -- the names to which the items of a module give a direction
  pub directed_in : PlainItem → List (List ℕ)
  directed_in (port_item _ _ _ _ _ names) = map (λ name. name.name) names
  directed_in (generate_item _ items) = directed_in_all items
  directed_in _ = []

  pub directed_in_all : Items → List (List ℕ)
  directed_in_all no_items = []
  directed_in_all (more_items x xs) = directed_in x ++ directed_in_all xs

-- each name is named once and has a direction
abbrev pub port_name : List (List ℕ) → Identifier → List (List ℕ) → Result (List (List ℕ)) ElabErr
port_name directed name seen =
    if list_any (same_name name.name) seen then Err (fault.DoubleName name.site.span)
    else if list_any (same_name name.name) directed then Ok (seen ++ name.name ∷ [])
    else Err (fault.PortName name.site.span)

abbrev pub port_names_fit : List (List ℕ) → List Identifier → Result ⊤ ElabErr
port_names_fit directed names = each (port_name directed) names [] >>= λ _. Ok tt

-- ---- declarations in the header
-- the port before, and the names so far
pub record Porting : Type 0 where
  pub before : Signal
  pub names : List Entry

abbrev pub ported : Identifier → Signal → List Entry → Result Porting ElabErr
ported name s names = declared (record { name = name; standing = signal s }) names >>= λ more. Ok (record { before = s; names = more })

-- one without words of its own has the direction and the type of the port before
abbrev pub port_at : PlainPort → Porting → Result Porting ElabErr
port_at (declared_port _ direction kind signed range name _) met =
    bounds_if (look_in (met.names ∷ [])) range >>= λ b.
    ported name (record { direction = Some direction; kind = kind; signed = signed; bounds = b }) met.names
port_at (same_port _ name _) met = ported name met.before met.names

abbrev pub nothing_before : Signal
nothing_before = record { direction = None; kind = None; signed = false; bounds = None }

abbrev pub declared_ports_of : List PlainPort → List Entry → Result (List Entry) ElabErr
declared_ports_of list names = each port_at list (record { before = nothing_before; names = names }) >>= λ met. Ok met.names

-- the names that a header adds to those of its parameters
abbrev pub header_ports : PlainModule → List Entry → Result (List Entry) ElabErr
header_ports m names = elim m.ports [
  | no_ports ↦ Ok names
  | name_ports list ↦ port_names_fit (directed_in_all (items_of m.items)) list >>= λ _. Ok names
  | declared_ports list ↦ declared_ports_of list names
]

-- ---- the list of the ports, once all of the module is declared
abbrev pub named_port : PlainPort → Identifier × Option Tree
named_port (declared_port _ _ _ _ _ name start) = (name, start)
named_port (same_port _ name start) = (name, start)

abbrev pub ports_named : PlainPorts → List (Identifier × Option Tree)
ports_named no_ports = []
ports_named (name_ports names) = map (λ name. (name, None)) names
ports_named (declared_ports ports) = map named_port ports

-- the names of the ports, in their order
abbrev pub port_names : PlainPorts → List (List ℕ)
port_names ports = map (λ p. p.0.name) (ports_named ports)

abbrev pub signal_of : Option Standing → Signal
signal_of (Some (signal s)) = s
signal_of _ = nothing_before

abbrev pub ports_of : PlainPorts → List Entry → List Port
ports_of ports names = map (λ p. record { name = p.0; signal = signal_of (find p.0.name names); start = p.1 }) (ports_named ports)
