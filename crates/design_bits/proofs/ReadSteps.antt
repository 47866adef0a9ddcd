-- An expression reads what its node reads itself and what the operands read.
use Rattle.std.proofs.Common.{◌≡◌, ℕ, List, ap, ◌∙◌, refl, sym}
use Rattle.std.specs.Prelude.{◌&&◌, ◌||◌, ◌==◌, nat_lt, ℤ}
use Rattle.std.specs.List.{list_any}
use denote.Hole.Carrier.{hidden}
use Rattle.loc_base.proofs.ShelfBools.{or-false}
use Rattle.design_core.specs.declared.signal.Signal.{Signal}
use Rattle.design_core.specs.declared.expression.UnaryOp.{UnaryOp}
use Rattle.design_core.specs.declared.expression.BinaryOp.{BinaryOp}
use Rattle.design_core.specs.declared.expression.Typed.{Typed}
use Rattle.design_core.specs.declared.expression.Node.{Node, Row_of-Typed, end_of-Typed, more_of-Typed, items-the_row-Typed, items_hidden-the_row-Typed-1}
use Rattle.design_core.specs.declared.expression.Node.TheVariants as node
use Rattle.design_core.specs.declared.expression.Node.TheBlock.{shape-the_row-Typed-0, hidden-the_row-Typed-0, hidden-the_row-Typed-1}
use Rattle.design_core.specs.Pick.{may_pick}
use Rattle.design_core.specs.Drives.{is_among}
use Rattle.design_core.specs.Reads.{node_reads, parts_read, reads}
use Rattle.design_bits.specs.Operands.{own_reads, operands_read}

pub node-splits : (signals : List Signal) (s b width : ℕ) (n : Node) → node_reads signals s b width n ≡ (own_reads signals s b width n || operands_read signals s b n)
node-splits signals s b width (node.Const word) = refl
node-splits signals s b width (node.Whole signal) = sym (or-false (s == signal && nat_lt b width))
node-splits signals s b width (node.Slice signal from size) = sym (or-false (s == signal && is_among from size b))
node-splits signals s b width (node.Pick' signal _ (more_of-Typed index_width signed index end_of-Typed) offsets) = refl
node-splits signals s b width (node.Word' first count _ _ (more_of-Typed index_width _ index end_of-Typed) from size) = refl
node-splits signals s b width (node.Unary' _ _ (more_of-Typed arg_width _ arg end_of-Typed)) = refl
node-splits signals s b width (node.Binary' _ _ (more_of-Typed left_width _ left end_of-Typed) _ (more_of-Typed right_width _ right end_of-Typed)) = refl
node-splits signals s b width (node.Choose' _ (more_of-Typed cond_width _ cond end_of-Typed) _ (more_of-Typed true_width _ on_true end_of-Typed) _ (more_of-Typed false_width _ on_false end_of-Typed)) = refl
node-splits signals s b width (node.Join' _ parts) = refl
node-splits signals s b width (node.Repeat' _ _ (more_of-Typed part_width _ part end_of-Typed)) = refl
node-splits signals s b width (node.Resize' _ (more_of-Typed arg_width _ arg end_of-Typed)) = refl

parts-list : {shape : _} (signals : List Signal) (s b : ℕ) (row : Row_of-Typed shape) → parts_read signals s b row ≡ list_any (reads signals s b) (items-the_row-Typed shape row)
parts-list signals s b end_of-Typed = refl
parts-list signals s b (more_of-Typed width signed n rest) = ap (λ x. node_reads signals s b width n || x) (parts-list signals s b rest)

-- ---- what nodes as code makes them read themselves
pub own_pick : (signals : List Signal) (s b width signal : ℕ) (index : Typed) (offsets : List ℤ)
    → own_reads signals s b width (node.Pick signal index offsets) ≡ (s == signal && may_pick signals signal index.width index.signed index.node offsets b)
unfolding shape-the_row-Typed-0 hidden-the_row-Typed-0 hidden
own_pick signals s b width signal index offsets = refl

-- ---- what the operands of nodes as code makes them read
pub operands_pick : (signals : List Signal) (s b signal : ℕ) (index : Typed) (offsets : List ℤ) → operands_read signals s b (node.Pick signal index offsets) ≡ reads signals s b index
unfolding shape-the_row-Typed-0 hidden-the_row-Typed-0 hidden
operands_pick signals s b signal index offsets = refl

pub operands_word : (signals : List Signal) (s b first count : ℕ) (low : ℤ) (index : Typed) (from size : ℕ)
    → operands_read signals s b (node.Word first count low index from size) ≡ reads signals s b index
unfolding shape-the_row-Typed-0 hidden-the_row-Typed-0 hidden
operands_word signals s b first count low index from size = refl

pub operands_unary : (signals : List Signal) (s b : ℕ) (op : UnaryOp) (arg : Typed) → operands_read signals s b (node.Unary op arg) ≡ reads signals s b arg
unfolding shape-the_row-Typed-0 hidden-the_row-Typed-0 hidden
operands_unary signals s b op arg = refl

pub operands_binary : (signals : List Signal) (s b : ℕ) (op : BinaryOp) (left right : Typed)
    → operands_read signals s b (node.Binary op left right) ≡ (reads signals s b left || reads signals s b right)
unfolding shape-the_row-Typed-0 hidden-the_row-Typed-0 hidden
operands_binary signals s b op left right = refl

pub operands_choose : (signals : List Signal) (s b : ℕ) (test on_true on_false : Typed)
    → operands_read signals s b (node.Choose test on_true on_false) ≡ (reads signals s b test || (reads signals s b on_true || reads signals s b on_false))
unfolding shape-the_row-Typed-0 hidden-the_row-Typed-0 hidden
operands_choose signals s b test on_true on_false = refl

pub operands_join : (signals : List Signal) (s b : ℕ) (parts : List Typed) → operands_read signals s b (node.Join parts) ≡ list_any (reads signals s b) parts
operands_join signals s b parts =
    parts-list signals s b (hidden-the_row-Typed-1 parts) ∙ ap (list_any (reads signals s b)) (items_hidden-the_row-Typed-1 parts)

pub operands_repeat : (signals : List Signal) (s b times : ℕ) (part : Typed) → operands_read signals s b (node.Repeat times part) ≡ reads signals s b part
unfolding shape-the_row-Typed-0 hidden-the_row-Typed-0 hidden
operands_repeat signals s b times part = refl

pub operands_resize : (signals : List Signal) (s b : ℕ) (arg : Typed) → operands_read signals s b (node.Resize arg) ≡ reads signals s b arg
unfolding shape-the_row-Typed-0 hidden-the_row-Typed-0 hidden
operands_resize signals s b arg = refl
