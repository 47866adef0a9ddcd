-- Private, for the functions inside this crate: what of a fitting node each of them looks at.
use Rattle.std.specs.Prelude.{ℕ, ◌*◌, ◌==◌, Bool, true, ◌&&◌, if◌then◌else◌, List, length, Option, Some, None, IsTrue}
use Rattle.loc_base.specs.Bits.{width_of}
use Rattle.design_core.specs.declared.signal.Signal.{Signal}
use Rattle.design_core.specs.declared.expression.Node.{Node, end_of-Typed, more_of-Typed}
use Rattle.design_core.specs.declared.expression.Node.TheVariants as node
use Rattle.design_core.specs.Valuation.{width_at}
use Rattle.design_core.specs.WellFormed.{is_width, is_signal, slice_fits, words_fit, unary_fits, binary_fits, signs_fit, same_widths, joined_width, node_fits, parts_fit}
use Rattle.design_core.specs.declared.design.Design.{Design}
use Rattle.design_core.specs.declared.trace.Trace.{Trace}
use Rattle.design_core.specs.Run.{samples_at, expected_at}
use Rattle.design_core.specs.TraceFits.{samples_fit, expected_fit}

-- whether a node's width and sign stand beside those of its operands
abbrev pub own_fits : List Signal → ℕ → Bool → Node → Bool
own_fits signals width signed (node.Const word) = is_width width && width_of word == width
own_fits signals width signed (node.Whole s) = is_width width && is_signal signals s && width_at signals s == width
own_fits signals width signed (node.Slice s from size) = slice_fits signals s from size && size == width
own_fits signals width signed (node.Pick' s _ _ offsets) = is_width width && is_signal signals s && length offsets == width
own_fits signals width signed (node.Word' first count _ _ _ from size) = words_fit signals first count from size && size == width
own_fits signals width signed (node.Unary' op _ (more_of-Typed arg_width _ _ end_of-Typed)) = is_width width && unary_fits op width arg_width
own_fits signals width signed (node.Binary' op _ (more_of-Typed left_width left_signed _ end_of-Typed) _ (more_of-Typed right_width right_signed _ end_of-Typed)) =
    is_width width && binary_fits op width left_width right_width && signs_fit op signed left_signed right_signed
own_fits signals width signed (node.Choose' _ _ _ (more_of-Typed true_width _ _ end_of-Typed) _ (more_of-Typed false_width _ _ end_of-Typed)) =
    same_widths width true_width false_width
own_fits signals width signed (node.Join' _ parts) = is_width width && joined_width parts == width
own_fits signals width signed (node.Repeat' times _ (more_of-Typed part_width _ _ end_of-Typed)) = is_width width && times * part_width == width
own_fits signals width signed (node.Resize' _ _) = is_width width

-- whether the operands of a node fit
abbrev pub operands_fit : List Signal → Node → Bool
operands_fit signals (node.Const _) = true
operands_fit signals (node.Whole _) = true
operands_fit signals (node.Slice _ _ _) = true
operands_fit signals (node.Pick' _ _ (more_of-Typed width signed index end_of-Typed) _) = node_fits signals width signed index
operands_fit signals (node.Word' _ _ _ _ (more_of-Typed width signed index end_of-Typed) _ _) = node_fits signals width signed index
operands_fit signals (node.Unary' _ _ (more_of-Typed width signed arg end_of-Typed)) = node_fits signals width signed arg
operands_fit signals (node.Binary' _ _ (more_of-Typed left_width left_signed left end_of-Typed) _ (more_of-Typed right_width right_signed right end_of-Typed)) =
    node_fits signals left_width left_signed left && node_fits signals right_width right_signed right
operands_fit signals (node.Choose' _ (more_of-Typed cond_width cond_signed cond end_of-Typed) _ (more_of-Typed true_width true_signed on_true end_of-Typed) _ (more_of-Typed false_width false_signed on_false end_of-Typed)) =
    node_fits signals cond_width cond_signed cond
    && node_fits signals true_width true_signed on_true && node_fits signals false_width false_signed on_false
operands_fit signals (node.Join' _ parts) = parts_fit signals parts
operands_fit signals (node.Repeat' _ _ (more_of-Typed width signed part end_of-Typed)) = node_fits signals width signed part
operands_fit signals (node.Resize' _ (more_of-Typed width signed arg end_of-Typed)) = node_fits signals width signed arg

-- a width of 1 to 128 bits, where it is one
abbrev pub small_width : ℕ → Option ℕ
small_width width = if is_width width then Some width else None

-- the samples and the entries of a cycle fit the inputs and outputs
pub record CycleFits (d : Design) (trace : Trace) (t : ℕ) : Type 0 where
  pub samples : IsTrue (samples_fit d.signals.items d.inputs.items (samples_at d trace t))
  pub expected : IsTrue (expected_fit d.signals.items d.outputs.items (expected_at d trace t))
