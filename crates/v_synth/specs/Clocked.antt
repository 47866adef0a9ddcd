-- The nodes of inputs and registers, of resets, and of the clocked blocks (IEEE 1364.1-2002, 5.2.2).
use Rattle.std.specs.Prelude.{ℕ, zero, suc, ◌+◌, ◌==◌, Bool, not, ◌&&◌, if◌then◌else◌, List, [], ◌∷◌, ◌++◌, length, get_or, set, Option, Some, None}
use Rattle.design_core.specs.declared.expression.UnaryOp.TheVariants as unary_op
use Rattle.design_core.specs.declared.statement.Stmt.{Stmt}
use Rattle.design_core.specs.declared.driver.Clocked.{Clocked}
use Rattle.design_core.specs.declared.driver.Reset.{Reset}
use Rattle.design_core.specs.declared.design.Design.{Design}
use Rattle.design_core.specs.Valuation.{number, width_at}
use Rattle.design_core.specs.Drives.{is_register_bit, is_listed, block_drives, block_assigns_later}
use Rattle.word_net.specs.declared.node.Operation.TheVariants as operation
use Rattle.word_net.specs.declared.node.WordNode.{WordNode}
use Rattle.word_net.specs.Build.{Made, made, pushed}
use Rattle.synth_parts.specs.Expression.{unsigned}
use Rattle.synth_parts.specs.Store.{Nodes, nodes_made}
use Rattle.synth_parts.specs.Statement.{Maps, maps, statement_made}
use Rattle.v_synth.specs.declared.clocked.Turn.{Turn}
use Rattle.v_synth.specs.declared.clocked.Turn.TheVariants.{When, Unless, Always}

-- ---- inputs and registers

-- the bits of a signal that are registers, as a mask
abbrev pub register_mask : Design → ℕ → ℕ
register_mask d s = number (width_at d.signals.items s) (is_register_bit d s)

-- whether a signal has a register bit: then it has a state
abbrev pub has_state : Design → ℕ → Bool
has_state d s = not (register_mask d s == 0)

-- the first place of a number in a list
abbrev pub place_in : List ℕ → ℕ → ℕ
place_in [] s = 0
place_in (input ∷ inputs) s = if input == s then 0 else suc (place_in inputs s)

-- the inputs, from the one at a place on
unfoldable pub inputs_made : Design → List WordNode → ℕ → List ℕ → List WordNode
inputs_made d nodes place [] = nodes
inputs_made d nodes place (input ∷ inputs) =
    inputs_made d (pushed nodes (width_at d.signals.items input) (operation.Input place)).nodes (place + 1) inputs

-- the bits of a word that are registers, all others 0
unfoldable pub masked_made : Design → List WordNode → ℕ → ℕ → Made
masked_made d nodes s word =
    let width = width_at d.signals.items s in
    let none = pushed nodes width (operation.Const 0) in
    pushed none.nodes width (operation.Blend (register_mask d s) (unsigned word width) (unsigned none.node width))

-- the state of a number, of which the bits of the signal that are registers are read
unfoldable pub state_made : Design → List WordNode → ℕ → ℕ → Made
state_made d nodes s state =
    let word = pushed nodes (width_at d.signals.items s) (operation.State state) in masked_made d word.nodes s word.node

-- a signal before anything is computed: its input, its state, or 0
unfoldable pub first_made : Design → List WordNode → ℕ → ℕ → Made
first_made d nodes s state =
    if is_listed d s then made nodes (place_in d.inputs.items s)
    else (if has_state d s then state_made d nodes s state else pushed nodes (width_at d.signals.items s) (operation.Const 0))

-- the signals from one on, so many of them, behind the nodes of those before; `state` numbers their states
unfoldable pub signals_made : Design → List WordNode → List ℕ → ℕ → ℕ → ℕ → Nodes
signals_made d nodes nodes_of state s zero = nodes_made nodes nodes_of
signals_made d nodes nodes_of state s (suc more) =
    let m = first_made d nodes s state in
    signals_made d m.nodes (nodes_of ++ m.node ∷ []) (if has_state d s then state + 1 else state) (s + 1) more

-- inputs first, then registers in signal order
unfoldable pub begun_made : Design → Nodes
begun_made d = signals_made d (inputs_made d [] 0 d.inputs.items) [] 0 0 (length d.signals.items)

-- ---- clocked blocks

-- the bits of a signal that are registers of a block, as a mask
abbrev pub own_mask : Design → Clocked → ℕ → ℕ
own_mask d block s = number (width_at d.signals.items s) (λ b. is_register_bit d s b && block_drives d.signals.items s b block)

-- the node that a block leaves for a signal: that of the later updates where it is assigned by `<=`
abbrev pub left_at : Clocked → Maps → ℕ → ℕ
left_at block m s = if block_assigns_later s block then get_or m.later s 0 else get_or m.now s 0

-- what a block leaves where that counts, else the word so far
unfoldable pub turned_made : Turn → List WordNode → ℕ → ℕ → ℕ → Made
turned_made (When test) nodes width left so_far = pushed nodes width (operation.Choose (unsigned test 1) (unsigned left width) (unsigned so_far width))
turned_made (Unless test) nodes width left so_far = pushed nodes width (operation.Choose (unsigned test 1) (unsigned so_far width) (unsigned left width))
turned_made Always nodes width left so_far = made nodes left

-- the register bits of a block in a signal as it leaves them where that counts, all other bits as they were so far
unfoldable pub own_made : Design → Clocked → Turn → Maps → List WordNode → ℕ → ℕ → Made
own_made d block turn m nodes s so_far =
    if own_mask d block s == 0 then made nodes so_far
    else
    (let width = width_at d.signals.items s in
    let b = pushed nodes width (operation.Blend (own_mask d block s) (unsigned (left_at block m s) width) (unsigned so_far width)) in
    turned_made turn b.nodes width b.node so_far)

-- the signals from one on, so many of them
unfoldable pub owns_made : Design → Clocked → Turn → Maps → List WordNode → List ℕ → ℕ → ℕ → Nodes
owns_made d block turn m nodes nodes_of s zero = nodes_made nodes nodes_of
owns_made d block turn m nodes nodes_of s (suc more) =
    let a = own_made d block turn m nodes s (get_or nodes_of s 0) in
    owns_made d block turn m a.nodes (set nodes_of s a.node) (s + 1) more

-- what a statement of a block leaves, begun in `from`
unfoldable pub left_made : Design → Clocked → Turn → Stmt → List WordNode → List ℕ → List ℕ → Nodes
left_made d block turn statement nodes from nodes_of =
    let m = statement_made d.signals.items (maps nodes from from) statement in
    owns_made d block turn m m.nodes nodes_of 0 (length d.signals.items)

-- whether a reset is active
unfoldable pub active_made : List WordNode → List ℕ → Reset → Made
active_made nodes nodes_of r =
    let word = get_or nodes_of r.signal 0 in
    if r.level then made nodes word else pushed nodes 1 (operation.Unary unary_op.LogicalNot (unsigned word 1))

-- the reset values of a block, begun in `from`
unfoldable pub reset_made : Design → List ℕ → Clocked → Option Reset → List WordNode → List ℕ → Nodes
reset_made d from block None nodes nodes_of = nodes_made nodes nodes_of
reset_made d from block (Some r) nodes nodes_of =
    let t = active_made nodes from r in left_made d block (When t.node) r.values t.nodes from nodes_of

unfoldable pub resets_made : Design → List ℕ → List WordNode → List ℕ → List Clocked → Nodes
resets_made d from nodes nodes_of [] = nodes_made nodes nodes_of
resets_made d from nodes nodes_of (block ∷ blocks) =
    let m = reset_made d from block block.reset nodes nodes_of in resets_made d from m.nodes m.each blocks

-- the next states of a block, begun in `from`
unfoldable pub body_made : Design → List ℕ → Clocked → Option Reset → List WordNode → List ℕ → Nodes
body_made d from block None nodes nodes_of = left_made d block Always block.body nodes from nodes_of
body_made d from block (Some r) nodes nodes_of =
    let t = active_made nodes from r in left_made d block (Unless t.node) block.body t.nodes from nodes_of

unfoldable pub bodies_made : Design → List ℕ → List WordNode → List ℕ → List Clocked → Nodes
bodies_made d from nodes nodes_of [] = nodes_made nodes nodes_of
bodies_made d from nodes nodes_of (block ∷ blocks) =
    let m = body_made d from block block.reset nodes nodes_of in bodies_made d from m.nodes m.each blocks
