-- The tree of a module's items without where it lies in memory, a case for each production (IEEE 1364-2005, clauses 4, 6, 7,
-- 9.7, 12 and A.1 to A.6).
use Rattle.std.specs.Prelude.{ℕ, List, [], ◌∷◌, map, Option, Some, None, option_map, Bool}
use Rattle.v_syntax.specs.declared.site.Site.{Site}
use Rattle.v_syntax.specs.declared.declaration.Identifier.{Identifier}
use Rattle.v_syntax.specs.declared.statement.Edge.{Edge}
use Rattle.v_syntax.specs.declared.statement.Event.{Event}
use Rattle.v_syntax.specs.declared.statement.Event.TheVariants as event
use Rattle.v_syntax.specs.declared.statement.Sensitivity.{Sensitivity}
use Rattle.v_syntax.specs.declared.statement.Sensitivity.TheVariants as sensitivity
use Rattle.v_syntax.specs.declared.item.Direction.{Direction}
use Rattle.v_syntax.specs.declared.item.NetKind.{NetKind}
use Rattle.v_syntax.specs.declared.item.ParameterKind.{ParameterKind}
use Rattle.v_syntax.specs.declared.item.GateKind.{GateKind}
use Rattle.v_syntax.specs.declared.item.ParameterType.{ParameterType}
use Rattle.v_syntax.specs.declared.item.ParameterType.TheVariants as type_kind
use Rattle.v_syntax.specs.declared.item.Declarator.{Declarator}
use Rattle.v_syntax.specs.declared.item.NetAssignment.{NetAssignment}
use Rattle.v_syntax.specs.declared.item.GateInstance.{GateInstance}
use Rattle.v_syntax.specs.declared.item.NamedConnection.{NamedConnection}
use Rattle.v_syntax.specs.declared.item.Connections.{Connections}
use Rattle.v_syntax.specs.declared.item.Connections.TheVariants as connection_kind
use Rattle.v_syntax.specs.declared.item.Instance.{Instance}
use Rattle.v_syntax.specs.declared.item.Item.{Item}
use Rattle.v_syntax.specs.declared.item.GenerateBlock.{GenerateBlock, fold-GenerateBlock}
use Rattle.v_syntax.specs.declared.item.GenerateBlock.TheFolds.{fold-Item}
use Rattle.v_syntax.specs.declared.item.GenerateBlock.TheOpen.{Item-F, GenerateBlock-F}
use Rattle.v_syntax.specs.Tree.{Tree, tree_of, Selection, selection_of}
use Rattle.v_syntax.specs.PartTree.{PlainRange, range_of, PlainNamed, named_of, PlainDelay, delay_of, PlainLeft, left_of}
use Rattle.v_syntax.specs.StatementTree.{PlainHead, head_of, PlainStatement, statement_of}

-- an event of a sensitivity list
pub data PlainEvent : Type 0 where
  edge_event : Site → Edge → List ℕ → PlainEvent
  change_event : Site → List ℕ → Option Selection → PlainEvent

-- what an always block waits for
pub data PlainSensitivity : Type 0 where
  all_events : Site → PlainSensitivity
  listed : Site → List PlainEvent → PlainSensitivity

-- the type of a parameter
pub data PlainParameterType : Type 0 where
  vector_type : Bool → Option PlainRange → PlainParameterType
  integer_type : PlainParameterType

-- a name of a wire or reg declaration
pub record PlainDeclarator : Type 0 where
  pub site : Site
  pub name : Identifier
  pub range : Option PlainRange
  pub value : Option Tree

-- target = value of a continuous assignment
pub record PlainAssignment : Type 0 where
  pub site : Site
  pub target : PlainLeft
  pub value : Tree

-- a gate
pub record PlainGate : Type 0 where
  pub site : Site
  pub name : Option (List ℕ)
  pub terminals : List Tree

-- .name(value)
pub record PlainConnection : Type 0 where
  pub site : Site
  pub name : Identifier
  pub value : Option Tree

-- the connections of an instance, or the overrides of its parameters
pub data PlainConnections : Type 0 where
  ordered : List (Option Tree) → PlainConnections
  named : List PlainConnection → PlainConnections

-- a module instance
pub record PlainInstance : Type 0 where
  pub site : Site
  pub name : Identifier
  pub connections : PlainConnections

mutual
  pub data PlainItem : Type 0 where
    port_item : Site → Direction → Option NetKind → Bool → Option PlainRange → List Identifier → PlainItem
    net_item : Site → NetKind → Bool → Option PlainRange → Option PlainDelay → List PlainDeclarator → PlainItem
    integer_item : Site → List Identifier → PlainItem
    genvar_item : Site → List Identifier → PlainItem
    parameter_item : Site → ParameterKind → PlainParameterType → List PlainNamed → PlainItem
    assign_item : Site → Option PlainDelay → List PlainAssignment → PlainItem
    gate_item : Site → GateKind → Option PlainDelay → List PlainGate → PlainItem
    always_item : Site → PlainSensitivity → PlainStatement → PlainItem
    initial_item : Site → PlainStatement → PlainItem
    instance_item : Site → Identifier → Option PlainConnections → List PlainInstance → PlainItem
    generate_item : Site → Items → PlainItem
    loop_item : Site → PlainHead → PlainBlock → PlainItem
    if_item : Site → Tree → PlainBlock → PlainItem
    if_else_item : Site → Tree → PlainBlock → PlainBlock → PlainItem

  -- what a generate loop or condition holds
  pub data PlainBlock : Type 0 where
    single : Site → PlainItem → PlainBlock
    several : Site → Option Identifier → Items → PlainBlock

  pub data Items : Type 0 where
    no_items : Items
    more_items : PlainItem → Items → Items

abbrev pub items_of : List PlainItem → Items
items_of [] = no_items
items_of (x ∷ xs) = more_items x (items_of xs)

abbrev pub event_of : Event → PlainEvent
event_of (event.Edge s edge name) = edge_event s edge name
event_of (event.Change s name select) = change_event s name (option_map selection_of select)

abbrev pub sensitivity_of : Sensitivity → PlainSensitivity
sensitivity_of (sensitivity.All s) = all_events s
sensitivity_of (sensitivity.Events s events) = listed s (map event_of events.items)

abbrev pub parameter_type_of : ParameterType → PlainParameterType
parameter_type_of (type_kind.Vector signed range) = vector_type signed (option_map range_of range)
parameter_type_of type_kind.Integer = integer_type

abbrev pub declarator_of : Declarator → PlainDeclarator
declarator_of x = record { site = x.site; name = x.name; range = option_map range_of x.range; value = option_map tree_of x.value }

abbrev pub assignment_of : NetAssignment → PlainAssignment
assignment_of x = record { site = x.site; target = left_of x.target; value = tree_of x.value }

abbrev pub gate_of : GateInstance → PlainGate
gate_of x = record { site = x.site; name = x.name; terminals = map tree_of x.terminals.items }

abbrev pub connection_of : NamedConnection → PlainConnection
connection_of x = record { site = x.site; name = x.name; value = option_map tree_of x.value }

abbrev pub connections_of : Connections → PlainConnections
connections_of (connection_kind.Ordered values) = ordered (map (option_map tree_of) values.items)
connections_of (connection_kind.Named values) = named (map connection_of values.items)

abbrev pub instance_of : Instance → PlainInstance
instance_of x = record { site = x.site; name = x.name; connections = connections_of x.connections }

-- if, with what stands behind its else
abbrev pub if_item_of : Site → Tree → PlainBlock → Option PlainBlock → PlainItem
if_item_of s condition then None = if_item s condition then
if_item_of s condition then (Some other) = if_else_item s condition then other

-- one level of the code's tree, with what is inside already seen so
abbrev pub item_step : Item-F PlainBlock PlainItem → PlainItem
item_step (Item-F.Port s direction net signed range names) = port_item s direction net signed (option_map range_of range) names.items
item_step (Item-F.Declaration s net signed range delay names) = net_item s net signed (option_map range_of range) (option_map delay_of delay) (map declarator_of names.items)
item_step (Item-F.Integers s names) = integer_item s names.items
item_step (Item-F.Genvars s names) = genvar_item s names.items
item_step (Item-F.Parameters s kind type_of values) = parameter_item s kind (parameter_type_of type_of) (map named_of values.items)
item_step (Item-F.Assigns s delay assignments) = assign_item s (option_map delay_of delay) (map assignment_of assignments.items)
item_step (Item-F.Gates s kind delay gates) = gate_item s kind (option_map delay_of delay) (map gate_of gates.items)
item_step (Item-F.Always s events body) = always_item s (sensitivity_of events) (statement_of body)
item_step (Item-F.Initial s body) = initial_item s (statement_of body)
item_step (Item-F.Instances s name parameters instances) = instance_item s name (option_map connections_of parameters) (map instance_of instances.items)
item_step (Item-F.Generate s items) = generate_item s (items_of items.items)
item_step (Item-F.GenerateFor s head body) = loop_item s (head_of head) body
item_step (Item-F.GenerateIf s condition then other) = if_item_of s (tree_of condition) then other

abbrev pub block_step : GenerateBlock-F PlainBlock PlainItem → PlainBlock
block_step (GenerateBlock-F.Item s item) = single s item.value
block_step (GenerateBlock-F.Block s label items) = several s label (items_of items.items)

-- the code's tree
abbrev pub item_of : Item → PlainItem
item_of = fold-Item PlainBlock PlainItem block_step item_step

abbrev pub block_of : GenerateBlock → PlainBlock
block_of = fold-GenerateBlock PlainBlock PlainItem block_step item_step
