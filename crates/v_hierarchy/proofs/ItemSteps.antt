-- The plain data of each variant of an item and of a generate block.
use Rattle.std.proofs.Common.{◌≡◌, Bool, map, Option, Some, None, sym, ap, ◌∙◌}
use Rattle.std.specs.Prelude.{option_map}
use Rattle.std.specs.declared.boxed.Box.{Box}
use Rattle.std.specs.declared.vec.Vec.{Vec}
use Rattle.std.specs.declared.alloc.Global.{Global}
use Rattle.v_syntax.specs.declared.site.Site.{Site}
use Rattle.v_syntax.specs.declared.expression.Expr.{Expr}
use Rattle.v_syntax.specs.declared.declaration.Identifier.{Identifier}
use Rattle.v_syntax.specs.declared.declaration.Range.{Range}
use Rattle.v_syntax.specs.declared.declaration.Delay.{Delay}
use Rattle.v_syntax.specs.declared.declaration.LoopHead.{LoopHead}
use Rattle.v_syntax.specs.declared.declaration.NamedValue.{NamedValue}
use Rattle.v_syntax.specs.declared.statement.Statement.{Statement}
use Rattle.v_syntax.specs.declared.statement.Sensitivity.{Sensitivity}
use Rattle.v_syntax.specs.declared.item.Direction.{Direction}
use Rattle.v_syntax.specs.declared.item.NetKind.{NetKind}
use Rattle.v_syntax.specs.declared.item.ParameterKind.{ParameterKind}
use Rattle.v_syntax.specs.declared.item.ParameterType.{ParameterType}
use Rattle.v_syntax.specs.declared.item.GateKind.{GateKind}
use Rattle.v_syntax.specs.declared.item.Declarator.{Declarator}
use Rattle.v_syntax.specs.declared.item.NetAssignment.{NetAssignment}
use Rattle.v_syntax.specs.declared.item.GateInstance.{GateInstance}
use Rattle.v_syntax.specs.declared.item.Connections.{Connections}
use Rattle.v_syntax.specs.declared.item.Instance.{Instance}
use Rattle.v_syntax.specs.declared.item.Item.{Item}
use Rattle.v_syntax.specs.declared.item.Item.TheVariants as item
use Rattle.v_syntax.specs.declared.item.GenerateBlock.{GenerateBlock}
use Rattle.v_syntax.specs.declared.item.GenerateBlock.TheVariants as block
use Rattle.v_syntax.specs.declared.item.GenerateBlock.TheFolds.{fold-roll-GenerateBlock, fold-roll-Item}
use Rattle.v_syntax.specs.declared.item.GenerateBlock.TheOpen.{GenerateBlock-F, Item-F}
use Rattle.v_syntax.specs.Tree.{tree_of}
use Rattle.v_syntax.specs.PartTree.{range_of, named_of, delay_of}
use Rattle.v_syntax.specs.StatementTree.{head_of, statement_of}
use Rattle.v_syntax.specs.ItemTree.{PlainItem, PlainBlock, single, several, items_of, item_of, block_of, item_step, block_step, port_item, net_item, integer_item, genvar_item, parameter_item, assign_item, gate_item, always_item, initial_item, instance_item, generate_item, loop_item, if_item, if_else_item, parameter_type_of, declarator_of, assignment_of, gate_of, sensitivity_of, connections_of, instance_of}

pub block_of_item : (s : Site) (item : Box Item Global) → block_of (block.Item s item) ≡ single s (item_of item.value)
block_of_item s item = ap block_of (sym (block.rolls-Item s item)) ∙ fold-roll-GenerateBlock PlainBlock PlainItem block_step item_step (GenerateBlock-F.Item s item)

pub block_of_block : (s : Site) (label : Option Identifier) (items : Vec Item Global) → block_of (block.Block s label items) ≡ several s label (items_of (map item_of items.items))
block_of_block s label items = ap block_of (sym (block.rolls-Block s label items)) ∙ fold-roll-GenerateBlock PlainBlock PlainItem block_step item_step (GenerateBlock-F.Block s label items)

pub ruleset block_steps = (block_of_item, block_of_block)

pub item_of_port : (s : Site) (direction : Direction) (net : Option NetKind) (signed : Bool) (range : Option Range) (names : Vec Identifier Global)
    → item_of (item.Port s direction net signed range names) ≡ port_item s direction net signed (option_map range_of range) names.items
item_of_port s direction net signed range names = ap item_of (sym (item.rolls-Port s direction net signed range names)) ∙ fold-roll-Item PlainBlock PlainItem block_step item_step (Item-F.Port s direction net signed range names)

pub item_of_declaration : (s : Site) (net : NetKind) (signed : Bool) (range : Option Range) (delay : Option Delay) (names : Vec Declarator Global)
    → item_of (item.Declaration s net signed range delay names) ≡ net_item s net signed (option_map range_of range) (option_map delay_of delay) (map declarator_of names.items)
item_of_declaration s net signed range delay names = ap item_of (sym (item.rolls-Declaration s net signed range delay names)) ∙ fold-roll-Item PlainBlock PlainItem block_step item_step (Item-F.Declaration s net signed range delay names)

pub item_of_integers : (s : Site) (names : Vec Identifier Global)
    → item_of (item.Integers s names) ≡ integer_item s names.items
item_of_integers s names = ap item_of (sym (item.rolls-Integers s names)) ∙ fold-roll-Item PlainBlock PlainItem block_step item_step (Item-F.Integers s names)

pub item_of_genvars : (s : Site) (names : Vec Identifier Global)
    → item_of (item.Genvars s names) ≡ genvar_item s names.items
item_of_genvars s names = ap item_of (sym (item.rolls-Genvars s names)) ∙ fold-roll-Item PlainBlock PlainItem block_step item_step (Item-F.Genvars s names)

pub item_of_parameters : (s : Site) (own : ParameterKind) (type_of : ParameterType) (values : Vec NamedValue Global)
    → item_of (item.Parameters s own type_of values) ≡ parameter_item s own (parameter_type_of type_of) (map named_of values.items)
item_of_parameters s own type_of values = ap item_of (sym (item.rolls-Parameters s own type_of values)) ∙ fold-roll-Item PlainBlock PlainItem block_step item_step (Item-F.Parameters s own type_of values)

pub item_of_assigns : (s : Site) (delay : Option Delay) (assignments : Vec NetAssignment Global)
    → item_of (item.Assigns s delay assignments) ≡ assign_item s (option_map delay_of delay) (map assignment_of assignments.items)
item_of_assigns s delay assignments = ap item_of (sym (item.rolls-Assigns s delay assignments)) ∙ fold-roll-Item PlainBlock PlainItem block_step item_step (Item-F.Assigns s delay assignments)

pub item_of_gates : (s : Site) (gate : GateKind) (delay : Option Delay) (gates : Vec GateInstance Global)
    → item_of (item.Gates s gate delay gates) ≡ gate_item s gate (option_map delay_of delay) (map gate_of gates.items)
item_of_gates s gate delay gates = ap item_of (sym (item.rolls-Gates s gate delay gates)) ∙ fold-roll-Item PlainBlock PlainItem block_step item_step (Item-F.Gates s gate delay gates)

pub item_of_always : (s : Site) (events : Sensitivity) (body : Statement)
    → item_of (item.Always s events body) ≡ always_item s (sensitivity_of events) (statement_of body)
item_of_always s events body = ap item_of (sym (item.rolls-Always s events body)) ∙ fold-roll-Item PlainBlock PlainItem block_step item_step (Item-F.Always s events body)

pub item_of_initial : (s : Site) (body : Statement)
    → item_of (item.Initial s body) ≡ initial_item s (statement_of body)
item_of_initial s body = ap item_of (sym (item.rolls-Initial s body)) ∙ fold-roll-Item PlainBlock PlainItem block_step item_step (Item-F.Initial s body)

pub item_of_instances : (s : Site) (name : Identifier) (parameters : Option Connections) (instances : Vec Instance Global)
    → item_of (item.Instances s name parameters instances) ≡ instance_item s name (option_map connections_of parameters) (map instance_of instances.items)
item_of_instances s name parameters instances = ap item_of (sym (item.rolls-Instances s name parameters instances)) ∙ fold-roll-Item PlainBlock PlainItem block_step item_step (Item-F.Instances s name parameters instances)

pub item_of_generate : (s : Site) (items : Vec Item Global)
    → item_of (item.Generate s items) ≡ generate_item s (items_of (map item_of items.items))
item_of_generate s items = ap item_of (sym (item.rolls-Generate s items)) ∙ fold-roll-Item PlainBlock PlainItem block_step item_step (Item-F.Generate s items)

pub item_of_loop : (s : Site) (head : LoopHead) (body : GenerateBlock)
    → item_of (item.GenerateFor s head body) ≡ loop_item s (head_of head) (block_of body)
item_of_loop s head body = ap item_of (sym (item.rolls-GenerateFor s head body)) ∙ fold-roll-Item PlainBlock PlainItem block_step item_step (Item-F.GenerateFor s head body)

pub item_of_if : (s : Site) (condition : Expr) (on_true : GenerateBlock) → item_of (item.GenerateIf s condition on_true None) ≡ if_item s (tree_of condition) (block_of on_true)
item_of_if s condition on_true = ap item_of (sym (item.rolls-GenerateIf s condition on_true None)) ∙ fold-roll-Item PlainBlock PlainItem block_step item_step (Item-F.GenerateIf s condition on_true None)

pub item_of_if_else : (s : Site) (condition : Expr) (on_true other : GenerateBlock)
    → item_of (item.GenerateIf s condition on_true (Some other)) ≡ if_else_item s (tree_of condition) (block_of on_true) (block_of other)
item_of_if_else s condition on_true other =
    ap item_of (sym (item.rolls-GenerateIf s condition on_true (Some other))) ∙ fold-roll-Item PlainBlock PlainItem block_step item_step (Item-F.GenerateIf s condition on_true (Some other))

pub ruleset item_steps = (item_of_port, item_of_declaration, item_of_integers, item_of_genvars, item_of_parameters, item_of_assigns, item_of_gates, item_of_always, item_of_initial, item_of_instances, item_of_generate, item_of_loop, item_of_if, item_of_if_else)
