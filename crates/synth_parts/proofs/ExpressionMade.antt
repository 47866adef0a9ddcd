-- The nodes of each form of an expression as code makes it, one operand in its place.
use Rattle.std.proofs.Common.{◌<◌, length, subst, arith, ◌≡◌, ℕ, ◌+◌, List, refl, ap, ◌∙◌, sym}
use Rattle.std.specs.Prelude.{ℤ}
use denote.Hole.Carrier.{hidden}
use Rattle.loc_base.specs.declared.bits.Bits.{Bits}
use Rattle.loc_base.specs.Bits.{value_of}
use Rattle.design_core.specs.declared.signal.Signal.{Signal}
use Rattle.design_core.specs.declared.expression.UnaryOp.{UnaryOp}
use Rattle.design_core.specs.declared.expression.BinaryOp.{BinaryOp}
use Rattle.design_core.specs.declared.expression.Typed.{Typed}
use Rattle.design_core.specs.declared.expression.Node.{Row_of-Typed, end_of-Typed, more_of-Typed, items-the_row-Typed, items_hidden-the_row-Typed-1}
use Rattle.design_core.specs.declared.expression.Node.TheVariants as node
use Rattle.design_core.specs.declared.expression.Node.TheBlock.{shape-the_row-Typed-0, hidden-the_row-Typed-0, hidden-the_row-Typed-1}
use Rattle.word_net.specs.declared.node.Operation.TheVariants as operation
use Rattle.word_net.specs.declared.node.WordNode.{WordNode}
use Rattle.word_net.specs.Build.{pushed}
use Rattle.synth_parts.specs.Expression.{operand, unsigned, signal_read, select_of, truth_made, is_logical, prepared, array_made, expression_made, join_made, parts_made, typed_made}
use Rattle.synth_parts.specs.Lists.{part_joined, later_parts, all_parts}

pub made_pick : (signals : List Signal) (nodes_of : List ℕ) (nodes : List WordNode) (width s : ℕ) (index : Typed) (offsets : List ℤ)
    → expression_made signals nodes_of nodes width (node.Pick s index offsets)
    ≡ (let i = typed_made signals nodes_of nodes index in pushed i.nodes width (operation.Pick (signal_read signals nodes_of s) (select_of signals s (operand i.node index.width index.signed) offsets)))
unfolding shape-the_row-Typed-0 hidden-the_row-Typed-0 hidden expression_made
made_pick signals nodes_of nodes width s index offsets = refl

pub made_word : (signals : List Signal) (nodes_of : List ℕ) (nodes : List WordNode) (width first count : ℕ) (low : ℤ) (index : Typed) (from size : ℕ)
    → expression_made signals nodes_of nodes width (node.Word first count low index from size)
    ≡ (let i = typed_made signals nodes_of nodes index in array_made signals nodes_of (record { first = first; low = low; index = operand i.node index.width index.signed; from = from; width = size }) i.nodes count)
unfolding shape-the_row-Typed-0 hidden-the_row-Typed-0 hidden expression_made
made_word signals nodes_of nodes width first count low index from size = refl

pub made_unary : (signals : List Signal) (nodes_of : List ℕ) (nodes : List WordNode) (width : ℕ) (op : UnaryOp) (arg : Typed)
    → expression_made signals nodes_of nodes width (node.Unary op arg) ≡ (let a = typed_made signals nodes_of nodes arg in pushed a.nodes width (operation.Unary op (unsigned a.node arg.width)))
unfolding shape-the_row-Typed-0 hidden-the_row-Typed-0 hidden expression_made
made_unary signals nodes_of nodes width op arg = refl

pub made_binary : (signals : List Signal) (nodes_of : List ℕ) (nodes : List WordNode) (width : ℕ) (op : BinaryOp) (left right : Typed)
    → expression_made signals nodes_of nodes width (node.Binary op left right)
    ≡ (let a = typed_made signals nodes_of nodes left in
    let l = prepared (is_logical op) a.nodes a.node left.width left.signed in
    let b = typed_made signals nodes_of l.nodes right in
    let r = prepared (is_logical op) b.nodes b.node right.width right.signed in
    pushed r.nodes width (operation.Binary op l.operand r.operand))
unfolding shape-the_row-Typed-0 hidden-the_row-Typed-0 hidden expression_made
made_binary signals nodes_of nodes width op left right = refl

pub made_choose : (signals : List Signal) (nodes_of : List ℕ) (nodes : List WordNode) (width : ℕ) (test on_true on_false : Typed)
    → expression_made signals nodes_of nodes width (node.Choose test on_true on_false)
    ≡ (let c = typed_made signals nodes_of nodes test in
    let t = truth_made c.nodes c.node test.width in
    let a = typed_made signals nodes_of t.nodes on_true in
    let b = typed_made signals nodes_of a.nodes on_false in
    pushed b.nodes width (operation.Choose (unsigned t.node 1) (unsigned a.node on_true.width) (unsigned b.node on_false.width)))
unfolding shape-the_row-Typed-0 hidden-the_row-Typed-0 hidden expression_made
made_choose signals nodes_of nodes width test on_true on_false = refl

pub made_repeat : (signals : List Signal) (nodes_of : List ℕ) (nodes : List WordNode) (width times : ℕ) (part : Typed)
    → expression_made signals nodes_of nodes width (node.Repeat times part) ≡ (let p = typed_made signals nodes_of nodes part in pushed p.nodes width (operation.Repeat times (unsigned p.node part.width)))
unfolding shape-the_row-Typed-0 hidden-the_row-Typed-0 hidden expression_made
made_repeat signals nodes_of nodes width times part = refl

pub made_resize : (signals : List Signal) (nodes_of : List ℕ) (nodes : List WordNode) (width : ℕ) (arg : Typed)
    → expression_made signals nodes_of nodes width (node.Resize arg) ≡ (let a = typed_made signals nodes_of nodes arg in pushed a.nodes width (operation.Resize (operand a.node arg.width arg.signed)))
unfolding shape-the_row-Typed-0 hidden-the_row-Typed-0 hidden expression_made
made_resize signals nodes_of nodes width arg = refl

pub made_const : (signals : List Signal) (nodes_of : List ℕ) (nodes : List WordNode) (width : ℕ) (word : Bits)
    → expression_made signals nodes_of nodes width (node.Const word) ≡ pushed nodes width (operation.Const (value_of word))
unfolding expression_made
made_const signals nodes_of nodes width word = refl

pub made_slice : (signals : List Signal) (nodes_of : List ℕ) (nodes : List WordNode) (width s from size : ℕ)
    → expression_made signals nodes_of nodes width (node.Slice s from size) ≡ pushed nodes size (operation.Slice (signal_read signals nodes_of s) from)
unfolding expression_made
made_slice signals nodes_of nodes width s from size = refl

later-list : {shape : _} (signals : List Signal) (nodes_of : List ℕ) (nodes : List WordNode) (left left_width : ℕ) (row : Row_of-Typed shape)
    → parts_made signals nodes_of nodes left left_width row ≡ later_parts signals nodes_of nodes left left_width (items-the_row-Typed shape row)
unfolding parts_made later_parts part_joined
later-list signals nodes_of nodes left left_width end_of-Typed = refl
later-list signals nodes_of nodes left left_width (more_of-Typed width signed node rest) =
    let p = expression_made signals nodes_of nodes width node in
    let j = pushed p.nodes (left_width + width) (operation.Join (unsigned left left_width) (unsigned p.node width)) in
    later-list signals nodes_of j.nodes j.node (left_width + width) rest

-- a concatenation that has a part
join-list : {shape : _} (signals : List Signal) (nodes_of : List ℕ) (nodes : List WordNode) (width : ℕ) (row : Row_of-Typed shape) → 0 < length (items-the_row-Typed shape row)
    → join_made signals nodes_of nodes width row ≡ all_parts signals nodes_of nodes (items-the_row-Typed shape row)
unfolding join_made all_parts
join-list signals nodes_of nodes width end_of-Typed some = absurd (omega (arith, some))
join-list signals nodes_of nodes width (more_of-Typed part_width signed node rest) some =
    let p = expression_made signals nodes_of nodes part_width node in later-list signals nodes_of p.nodes p.node part_width rest

pub made_join : (signals : List Signal) (nodes_of : List ℕ) (nodes : List WordNode) (width : ℕ) (parts : List Typed) → 0 < length parts
    → expression_made signals nodes_of nodes width (node.Join parts) ≡ all_parts signals nodes_of nodes parts
unfolding expression_made
made_join signals nodes_of nodes width parts some =
    let row = hidden-the_row-Typed-1 parts in
    let items = items_hidden-the_row-Typed-1 parts in
    join-list signals nodes_of nodes width row (subst (λ ps. 0 < length ps) (sym items) some) ∙ ap (all_parts signals nodes_of nodes) items
