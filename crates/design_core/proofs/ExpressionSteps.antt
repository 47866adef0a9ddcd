-- What the definitions over expressions say of each node as code makes it, one operand in its place.
use Rattle.std.proofs.Common.{◌≡◌, ℕ, ◌*◌, List, refl, length}
use Rattle.std.specs.Prelude.{Bool, ◌&&◌, ◌==◌, ℤ, if◌then◌else◌}
use denote.Hole.Carrier.{hidden}
use Rattle.design_core.specs.declared.signal.Signal.{Signal}
use Rattle.design_core.specs.declared.expression.UnaryOp.{UnaryOp}
use Rattle.design_core.specs.declared.expression.BinaryOp.{BinaryOp}
use Rattle.design_core.specs.declared.expression.Typed.{Typed}
use Rattle.design_core.specs.declared.expression.Node.TheVariants as node
use Rattle.design_core.specs.declared.expression.Node.TheBlock.{shape-the_row-Typed-0, hidden-the_row-Typed-0}
use Rattle.design_core.specs.Valuation.{Valuation, number, word_at}
use Rattle.design_core.specs.Operator.{is_true, unary, binary, repeated, resized}
use Rattle.design_core.specs.Value.{node_value, value, index_value, picked, word_value}
use Rattle.design_core.specs.Constant.{is_constant}
use Rattle.design_core.specs.WellFormed.{is_width, is_signal, words_fit, unary_fits, binary_fits, signs_fit, same_widths, node_fits, typed_fits}

-- ---- values
pub value_pick : (signals : List Signal) (V : Valuation) (width signal : ℕ) (index : Typed) (offsets : List ℤ)
    → node_value signals V width (node.Pick signal index offsets) ≡ number width (picked signals V signal (index_value signals V index) offsets)
unfolding shape-the_row-Typed-0 hidden-the_row-Typed-0 hidden
value_pick signals V width signal index offsets = refl

pub value_word : (signals : List Signal) (V : Valuation) (width first count : ℕ) (low : ℤ) (index : Typed) (from size : ℕ)
    → node_value signals V width (node.Word first count low index from size) ≡ word_value V from size (word_at first count low (index_value signals V index))
unfolding shape-the_row-Typed-0 hidden-the_row-Typed-0 hidden
value_word signals V width first count low index from size = refl

pub value_unary : (signals : List Signal) (V : Valuation) (width : ℕ) (op : UnaryOp) (arg : Typed)
    → node_value signals V width (node.Unary op arg) ≡ unary op arg.width (value signals V arg)
unfolding shape-the_row-Typed-0 hidden-the_row-Typed-0 hidden
value_unary signals V width op arg = refl

pub value_binary : (signals : List Signal) (V : Valuation) (width : ℕ) (op : BinaryOp) (left right : Typed)
    → node_value signals V width (node.Binary op left right) ≡ binary op left.width left.signed right.signed (value signals V left) (value signals V right)
unfolding shape-the_row-Typed-0 hidden-the_row-Typed-0 hidden
value_binary signals V width op left right = refl

pub value_choose : (signals : List Signal) (V : Valuation) (width : ℕ) (test on_true on_false : Typed)
    → node_value signals V width (node.Choose test on_true on_false) ≡ (if is_true (value signals V test) then value signals V on_true else value signals V on_false)
unfolding shape-the_row-Typed-0 hidden-the_row-Typed-0 hidden
value_choose signals V width test on_true on_false = refl

pub value_repeat : (signals : List Signal) (V : Valuation) (width times : ℕ) (part : Typed)
    → node_value signals V width (node.Repeat times part) ≡ repeated times part.width (value signals V part)
unfolding shape-the_row-Typed-0 hidden-the_row-Typed-0 hidden
value_repeat signals V width times part = refl

pub value_resize : (signals : List Signal) (V : Valuation) (width : ℕ) (arg : Typed)
    → node_value signals V width (node.Resize arg) ≡ resized width arg.signed arg.width (value signals V arg)
unfolding shape-the_row-Typed-0 hidden-the_row-Typed-0 hidden
value_resize signals V width arg = refl

pub ruleset value_steps = (value_pick, value_word, value_unary, value_binary, value_choose, value_repeat, value_resize)

-- ---- widths and signs
pub fits_pick : (signals : List Signal) (signed : Bool) (width signal : ℕ) (index : Typed) (offsets : List ℤ)
    → node_fits signals width signed (node.Pick signal index offsets) ≡ (is_width width && is_signal signals signal && length offsets == width && typed_fits signals index)
unfolding shape-the_row-Typed-0 hidden-the_row-Typed-0 hidden
fits_pick signals signed width signal index offsets = refl

pub fits_word : (signals : List Signal) (signed : Bool) (width first count : ℕ) (low : ℤ) (index : Typed) (from size : ℕ)
    → node_fits signals width signed (node.Word first count low index from size) ≡ (words_fit signals first count from size && size == width && typed_fits signals index)
unfolding shape-the_row-Typed-0 hidden-the_row-Typed-0 hidden
fits_word signals signed width first count low index from size = refl

pub fits_unary : (signals : List Signal) (signed : Bool) (width : ℕ) (op : UnaryOp) (arg : Typed)
    → node_fits signals width signed (node.Unary op arg) ≡ (is_width width && unary_fits op width arg.width && typed_fits signals arg)
unfolding shape-the_row-Typed-0 hidden-the_row-Typed-0 hidden
fits_unary signals signed width op arg = refl

pub fits_binary : (signals : List Signal) (signed : Bool) (width : ℕ) (op : BinaryOp) (left right : Typed)
    → node_fits signals width signed (node.Binary op left right)
    ≡ (is_width width && binary_fits op width left.width right.width && signs_fit op signed left.signed right.signed && typed_fits signals left && typed_fits signals right)
unfolding shape-the_row-Typed-0 hidden-the_row-Typed-0 hidden
fits_binary signals signed width op left right = refl

pub fits_choose : (signals : List Signal) (signed : Bool) (width : ℕ) (test on_true on_false : Typed)
    → node_fits signals width signed (node.Choose test on_true on_false)
    ≡ (same_widths width on_true.width on_false.width && typed_fits signals test && typed_fits signals on_true && typed_fits signals on_false)
unfolding shape-the_row-Typed-0 hidden-the_row-Typed-0 hidden
fits_choose signals signed width test on_true on_false = refl

pub fits_repeat : (signals : List Signal) (signed : Bool) (width times : ℕ) (part : Typed)
    → node_fits signals width signed (node.Repeat times part) ≡ (is_width width && times * part.width == width && typed_fits signals part)
unfolding shape-the_row-Typed-0 hidden-the_row-Typed-0 hidden
fits_repeat signals signed width times part = refl

pub fits_resize : (signals : List Signal) (signed : Bool) (width : ℕ) (arg : Typed)
    → node_fits signals width signed (node.Resize arg) ≡ (is_width width && typed_fits signals arg)
unfolding shape-the_row-Typed-0 hidden-the_row-Typed-0 hidden
fits_resize signals signed width arg = refl

pub ruleset fit_steps = (fits_pick, fits_word, fits_unary, fits_binary, fits_choose, fits_repeat, fits_resize)

-- ---- constants
pub constant_resize : (arg : Typed) → is_constant (node.Resize arg) ≡ is_constant arg.node
unfolding shape-the_row-Typed-0 hidden-the_row-Typed-0 hidden
constant_resize arg = refl
