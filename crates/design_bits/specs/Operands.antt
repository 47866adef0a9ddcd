-- Which bits a node reads itself, and which its operands, for what is private to this crate.
use Rattle.std.specs.Prelude.{ℕ, ◌==◌, Bool, false, ◌&&◌, ◌||◌, nat_lt, List}
use Rattle.design_core.specs.declared.signal.Signal.{Signal}
use Rattle.design_core.specs.declared.expression.Node.{Node, end_of-Typed, more_of-Typed}
use Rattle.design_core.specs.declared.expression.Node.TheVariants as node
use Rattle.design_core.specs.Pick.{may_pick}
use Rattle.design_core.specs.Drives.{is_among}
use Rattle.design_core.specs.Reads.{node_reads, parts_read}

-- whether a node reads a bit itself
abbrev pub own_reads : List Signal → ℕ → ℕ → ℕ → Node → Bool
own_reads signals s b width (node.Const _) = false
own_reads signals s b width (node.Whole signal) = s == signal && nat_lt b width
own_reads signals s b width (node.Slice signal from size) = s == signal && is_among from size b
own_reads signals s b width (node.Pick' signal _ (more_of-Typed index_width signed index end_of-Typed) offsets) =
    s == signal && may_pick signals signal index_width signed index offsets b
own_reads signals s b width (node.Word' first count _ _ _ from size) = is_among first count s && is_among from size b
own_reads signals s b width (node.Unary' _ _ _) = false
own_reads signals s b width (node.Binary' _ _ _ _ _) = false
own_reads signals s b width (node.Choose' _ _ _ _ _ _) = false
own_reads signals s b width (node.Join' _ _) = false
own_reads signals s b width (node.Repeat' _ _ _) = false
own_reads signals s b width (node.Resize' _ _) = false

-- whether an operand of a node reads a bit
abbrev pub operands_read : List Signal → ℕ → ℕ → Node → Bool
operands_read signals s b (node.Const _) = false
operands_read signals s b (node.Whole _) = false
operands_read signals s b (node.Slice _ _ _) = false
operands_read signals s b (node.Pick' _ _ (more_of-Typed width _ index end_of-Typed) _) = node_reads signals s b width index
operands_read signals s b (node.Word' _ _ _ _ (more_of-Typed width _ index end_of-Typed) _ _) = node_reads signals s b width index
operands_read signals s b (node.Unary' _ _ (more_of-Typed width _ arg end_of-Typed)) = node_reads signals s b width arg
operands_read signals s b (node.Binary' _ _ (more_of-Typed left_width _ left end_of-Typed) _ (more_of-Typed right_width _ right end_of-Typed)) =
    node_reads signals s b left_width left || node_reads signals s b right_width right
operands_read signals s b (node.Choose' _ (more_of-Typed cond_width _ cond end_of-Typed) _ (more_of-Typed true_width _ on_true end_of-Typed) _ (more_of-Typed false_width _ on_false end_of-Typed)) =
    node_reads signals s b cond_width cond
    || (node_reads signals s b true_width on_true || node_reads signals s b false_width on_false)
operands_read signals s b (node.Join' _ parts) = parts_read signals s b parts
operands_read signals s b (node.Repeat' _ _ (more_of-Typed width _ part end_of-Typed)) = node_reads signals s b width part
operands_read signals s b (node.Resize' _ (more_of-Typed width _ arg end_of-Typed)) = node_reads signals s b width arg
