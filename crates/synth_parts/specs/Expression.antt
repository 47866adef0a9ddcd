-- The nodes of an expression (IEEE 1364-2005, clause 5), operands from the left first. A map gives each signal its node.
use Rattle.std.specs.Prelude.{ℕ, zero, suc, ◌+◌, Bool, true, false, ℤ, pos, ◌+ℤ◌, List, get_or, slice_get}
use Rattle.std.specs.Option.{option_map_or}
use Rattle.loc_base.specs.Bits.{value_of}
use Rattle.design_core.specs.declared.signal.Signal.{Signal}
use Rattle.design_core.specs.declared.expression.UnaryOp.TheVariants as unary_op
use Rattle.design_core.specs.declared.expression.BinaryOp.{BinaryOp}
use Rattle.design_core.specs.declared.expression.BinaryOp.TheVariants as binary_op
use Rattle.design_core.specs.declared.expression.Typed.{Typed}
use Rattle.design_core.specs.declared.expression.Node.{Node, Row_of-Typed, end_of-Typed, more_of-Typed}
use Rattle.design_core.specs.declared.expression.Node.TheVariants as node
use Rattle.design_core.specs.Valuation.{width_at}
use Rattle.word_net.specs.declared.node.Operand.{Operand}
use Rattle.word_net.specs.declared.node.Select.{Select}
use Rattle.word_net.specs.declared.node.Operation.TheVariants as operation
use Rattle.word_net.specs.declared.node.WordNode.{WordNode}
use Rattle.synth_parts.specs.declared.array_parts.ArrayPart.{ArrayPart}
use Rattle.word_net.specs.Build.{Made, made, pushed}

-- a node as it is read
abbrev pub operand : ℕ → ℕ → Bool → Operand
operand node width signed = record { node = node; width = width; signed = signed }

abbrev pub unsigned : ℕ → ℕ → Operand
unsigned node width = operand node width false

-- the node of a signal, as it is read
abbrev pub signal_read : List Signal → List ℕ → ℕ → Operand
signal_read signals nodes_of s = unsigned (get_or nodes_of s 0) (width_at signals s)

-- the index declared leftmost, and the one declared rightmost
abbrev pub left_at : List Signal → ℕ → ℤ
left_at signals s = option_map_or (λ signal. signal.left) (slice_get signals s) (pos 0)

abbrev pub right_at : List Signal → ℕ → ℤ
right_at signals s = option_map_or (λ signal. signal.right) (slice_get signals s) (pos 0)

-- bits of a signal by a variable index
abbrev pub select_of : List Signal → ℕ → Operand → List ℤ → Select
select_of signals s index offsets = record { index = index; left = left_at signals s; right = right_at signals s; offsets = offsets }

-- the truth value of a word: the OR of its bits
unfoldable pub truth_made : List WordNode → ℕ → ℕ → Made
truth_made nodes word width = pushed nodes 1 (operation.Unary unary_op.ReduceOr (unsigned word width))

-- the nodes, and an operand
pub record Prepared : Type 0 where
  pub nodes : List WordNode
  pub operand : Operand

-- whether an operator goes by truth values
abbrev pub is_logical : BinaryOp → Bool
is_logical binary_op.LogicalAnd = true
is_logical binary_op.LogicalOr = true
is_logical _ = false

-- an operand of an operator: its truth value where the operator goes by these
unfoldable pub prepared : Bool → List WordNode → ℕ → ℕ → Bool → Prepared
prepared true nodes word width signed = let t = truth_made nodes word width in record { nodes = t.nodes; operand = unsigned t.node 1 }
prepared false nodes word width signed = record { nodes = nodes; operand = operand word width signed }

-- a word of the array: its bits where the address is its, else those so far
unfoldable pub word_made : List Signal → List ℕ → ArrayPart → List WordNode → ℕ → ℕ → Made
word_made signals nodes_of array nodes so_far place =
    let is = pushed nodes 1 (operation.Is array.index (array.low +ℤ pos place)) in
    let bits = pushed is.nodes array.width (operation.Slice (signal_read signals nodes_of (array.first + place)) array.from) in
    pushed bits.nodes array.width (operation.Choose (unsigned is.node 1) (unsigned bits.node array.width) (unsigned so_far array.width))

-- the words of the array from one on, so many of them
unfoldable pub words_made : List Signal → List ℕ → ArrayPart → List WordNode → ℕ → ℕ → ℕ → Made
words_made signals nodes_of array nodes so_far place zero = made nodes so_far
words_made signals nodes_of array nodes so_far place (suc more) =
    let m = word_made signals nodes_of array nodes so_far place in
    words_made signals nodes_of array m.nodes m.node (place + 1) more

-- a word of an array, from 0 on
unfoldable pub array_made : List Signal → List ℕ → ArrayPart → List WordNode → ℕ → Made
array_made signals nodes_of array nodes count =
    let none = pushed nodes array.width (operation.Const 0) in
    words_made signals nodes_of array none.nodes none.node 0 count

unfoldable mutual
  -- the nodes of an expression of a width
  pub expression_made : List Signal → List ℕ → List WordNode → ℕ → Node → Made
  expression_made signals nodes_of nodes width (node.Const word) = pushed nodes width (operation.Const (value_of word))
  expression_made signals nodes_of nodes width (node.Whole s) = made nodes (get_or nodes_of s 0)
  expression_made signals nodes_of nodes width (node.Slice s from size) = pushed nodes size (operation.Slice (signal_read signals nodes_of s) from)
  expression_made signals nodes_of nodes width (node.Pick' s _ (more_of-Typed index_width signed index end_of-Typed) offsets) =
      let i = expression_made signals nodes_of nodes index_width index in
      pushed i.nodes width (operation.Pick (signal_read signals nodes_of s) (select_of signals s (operand i.node index_width signed) offsets))
  expression_made signals nodes_of nodes width (node.Word' first count low _ (more_of-Typed index_width signed index end_of-Typed) from size) =
      let i = expression_made signals nodes_of nodes index_width index in
      array_made signals nodes_of (record { first = first; low = low; index = operand i.node index_width signed; from = from; width = size }) i.nodes count
  expression_made signals nodes_of nodes width (node.Unary' op _ (more_of-Typed arg_width _ arg end_of-Typed)) =
      let a = expression_made signals nodes_of nodes arg_width arg in
      pushed a.nodes width (operation.Unary op (unsigned a.node arg_width))
  expression_made signals nodes_of nodes width (node.Binary' op _ (more_of-Typed left_width left_signed left end_of-Typed) _ (more_of-Typed right_width right_signed right end_of-Typed)) =
      let a = expression_made signals nodes_of nodes left_width left in
      let l = prepared (is_logical op) a.nodes a.node left_width left_signed in
      let b = expression_made signals nodes_of l.nodes right_width right in
      let r = prepared (is_logical op) b.nodes b.node right_width right_signed in
      pushed r.nodes width (operation.Binary op l.operand r.operand)
  expression_made signals nodes_of nodes width (node.Choose' _ (more_of-Typed cond_width _ test end_of-Typed) _ (more_of-Typed true_width _ on_true end_of-Typed) _ (more_of-Typed false_width _ on_false end_of-Typed)) =
      let c = expression_made signals nodes_of nodes cond_width test in
      let t = truth_made c.nodes c.node cond_width in
      let a = expression_made signals nodes_of t.nodes true_width on_true in
      let b = expression_made signals nodes_of a.nodes false_width on_false in
      pushed b.nodes width (operation.Choose (unsigned t.node 1) (unsigned a.node true_width) (unsigned b.node false_width))
  expression_made signals nodes_of nodes width (node.Join' _ parts) = join_made signals nodes_of nodes width parts
  expression_made signals nodes_of nodes width (node.Repeat' times _ (more_of-Typed part_width _ part end_of-Typed)) =
      let p = expression_made signals nodes_of nodes part_width part in
      pushed p.nodes width (operation.Repeat times (unsigned p.node part_width))
  expression_made signals nodes_of nodes width (node.Resize' _ (more_of-Typed arg_width signed arg end_of-Typed)) =
      let a = expression_made signals nodes_of nodes arg_width arg in
      pushed a.nodes width (operation.Resize (operand a.node arg_width signed))

  -- a concatenation of a width
  pub join_made : {shape : _} → List Signal → List ℕ → List WordNode → ℕ → Row_of-Typed shape → Made
  join_made signals nodes_of nodes width end_of-Typed = pushed nodes width (operation.Const 0)
  join_made signals nodes_of nodes width (more_of-Typed part_width _ part rest) =
      let p = expression_made signals nodes_of nodes part_width part in
      parts_made signals nodes_of p.nodes p.node part_width rest

  -- its further parts, from the left, below what stands to their left
  pub parts_made : {shape : _} → List Signal → List ℕ → List WordNode → ℕ → ℕ → Row_of-Typed shape → Made
  parts_made signals nodes_of nodes left left_width end_of-Typed = made nodes left
  parts_made signals nodes_of nodes left left_width (more_of-Typed part_width _ part rest) =
      let p = expression_made signals nodes_of nodes part_width part in
      let j = pushed p.nodes (left_width + part_width) (operation.Join (unsigned left left_width) (unsigned p.node part_width)) in
      parts_made signals nodes_of j.nodes j.node (left_width + part_width) rest

-- the nodes of a typed expression
abbrev pub typed_made : List Signal → List ℕ → List WordNode → Typed → Made
typed_made signals nodes_of nodes e = expression_made signals nodes_of nodes e.width e.node
