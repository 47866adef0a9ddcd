-- An expression fits where its own width and sign stand beside those of its operands, and these fit.
use Rattle.std.proofs.Common.{◌≡◌, ℕ, ◌*◌, List, ap, ◌∙◌, refl}
use Rattle.std.specs.Prelude.{Bool, true, false, ◌&&◌, ◌==◌, ℤ}
use Rattle.std.specs.List.{list_all}
use denote.Hole.Carrier.{hidden}
use Rattle.design_core.specs.declared.signal.Signal.{Signal}
use Rattle.design_core.specs.declared.expression.UnaryOp.{UnaryOp}
use Rattle.design_core.specs.declared.expression.BinaryOp.{BinaryOp}
use Rattle.design_core.specs.declared.expression.Typed.{Typed}
use Rattle.design_core.specs.declared.expression.Node.{Node, end_of-Typed, more_of-Typed, items_hidden-the_row-Typed-1}
use Rattle.design_core.specs.declared.expression.Node.TheVariants as node
use Rattle.design_core.specs.declared.expression.Node.TheBlock.{shape-the_row-Typed-0, hidden-the_row-Typed-0, hidden-the_row-Typed-1}
use Rattle.design_core.specs.WellFormed.{is_width, unary_fits, binary_fits, signs_fit, same_widths, node_fits, typed_fits}
use Rattle.plain_values.specs.Evaluate.{parts_sum}
use Rattle.design_fits.specs.Fits.{own_fits, operands_fit}
use Rattle.plain_values.proofs.EvaluateParts.{fits-list, width-list}

with_true : (a : Bool) → a ≡ (a && true)
with_true true = refl
with_true false = refl

then_two : (own a b : Bool) → (own && a && b) ≡ (own && (a && b))
then_two true a b = refl
then_two false a b = refl

then_three : (own a b c : Bool) → (own && a && b && c) ≡ (own && (a && b && c))
then_three true a b c = refl
then_three false a b c = refl

pub node-splits : (signals : List Signal) (width : ℕ) (signed : Bool) (n : Node) → node_fits signals width signed n ≡ (own_fits signals width signed n && operands_fit signals n)
node-splits signals width signed (node.Const word) = with_true _
node-splits signals width signed (node.Whole s) = with_true _
node-splits signals width signed (node.Slice s from size) = with_true _
node-splits signals width signed (node.Pick' s _ (more_of-Typed index_width index_signed index end_of-Typed) offsets) = refl
node-splits signals width signed (node.Word' first count _ _ (more_of-Typed index_width index_signed index end_of-Typed) from size) = refl
node-splits signals width signed (node.Unary' op _ (more_of-Typed arg_width arg_signed arg end_of-Typed)) = refl
node-splits signals width signed (node.Binary' op _ (more_of-Typed left_width left_signed left end_of-Typed) _ (more_of-Typed right_width right_signed right end_of-Typed)) =
    then_two (is_width width && binary_fits op width left_width right_width && signs_fit op signed left_signed right_signed)
    (node_fits signals left_width left_signed left) (node_fits signals right_width right_signed right)
node-splits signals width signed (node.Choose' _ (more_of-Typed cond_width cond_signed cond end_of-Typed) _ (more_of-Typed true_width true_signed on_true end_of-Typed) _ (more_of-Typed false_width false_signed on_false end_of-Typed)) =
    then_three (same_widths width true_width false_width) (node_fits signals cond_width cond_signed cond)
    (node_fits signals true_width true_signed on_true) (node_fits signals false_width false_signed on_false)
node-splits signals width signed (node.Join' _ parts) = refl
node-splits signals width signed (node.Repeat' times _ (more_of-Typed part_width part_signed part end_of-Typed)) = refl
node-splits signals width signed (node.Resize' _ (more_of-Typed arg_width arg_signed arg end_of-Typed)) = refl

-- ---- the own widths of nodes as code makes them
pub own_unary : (signals : List Signal) (width : ℕ) (signed : Bool) (op : UnaryOp) (arg : Typed)
    → own_fits signals width signed (node.Unary op arg) ≡ (is_width width && unary_fits op width arg.width)
unfolding shape-the_row-Typed-0 hidden-the_row-Typed-0 hidden
own_unary signals width signed op arg = refl

pub own_binary : (signals : List Signal) (width : ℕ) (signed : Bool) (op : BinaryOp) (left right : Typed)
    → own_fits signals width signed (node.Binary op left right)
    ≡ (is_width width && (binary_fits op width left.width right.width && signs_fit op signed left.signed right.signed))
unfolding shape-the_row-Typed-0 hidden-the_row-Typed-0 hidden
own_binary signals width signed op left right = then_two (is_width width) (binary_fits op width left.width right.width) (signs_fit op signed left.signed right.signed)

pub own_choose : (signals : List Signal) (width : ℕ) (signed : Bool) (test on_true on_false : Typed)
    → own_fits signals width signed (node.Choose test on_true on_false) ≡ same_widths width on_true.width on_false.width
unfolding shape-the_row-Typed-0 hidden-the_row-Typed-0 hidden
own_choose signals width signed test on_true on_false = refl

pub own_join : (signals : List Signal) (width : ℕ) (signed : Bool) (parts : List Typed)
    → own_fits signals width signed (node.Join parts) ≡ (is_width width && parts_sum parts == width)
own_join signals width signed parts =
    ap (λ n. is_width width && n == width) (width-list (hidden-the_row-Typed-1 parts) ∙ ap parts_sum (items_hidden-the_row-Typed-1 parts))

pub own_repeat : (signals : List Signal) (width : ℕ) (signed : Bool) (times : ℕ) (part : Typed)
    → own_fits signals width signed (node.Repeat times part) ≡ (is_width width && times * part.width == width)
unfolding shape-the_row-Typed-0 hidden-the_row-Typed-0 hidden
own_repeat signals width signed times part = refl

-- ---- the operands of nodes as code makes them
pub operands_pick : (signals : List Signal) (signal : ℕ) (index : Typed) (offsets : List ℤ) → operands_fit signals (node.Pick signal index offsets) ≡ typed_fits signals index
unfolding shape-the_row-Typed-0 hidden-the_row-Typed-0 hidden
operands_pick signals signal index offsets = refl

pub operands_word : (signals : List Signal) (first count : ℕ) (low : ℤ) (index : Typed) (from size : ℕ)
    → operands_fit signals (node.Word first count low index from size) ≡ typed_fits signals index
unfolding shape-the_row-Typed-0 hidden-the_row-Typed-0 hidden
operands_word signals first count low index from size = refl

pub operands_unary : (signals : List Signal) (op : UnaryOp) (arg : Typed) → operands_fit signals (node.Unary op arg) ≡ typed_fits signals arg
unfolding shape-the_row-Typed-0 hidden-the_row-Typed-0 hidden
operands_unary signals op arg = refl

pub operands_binary : (signals : List Signal) (op : BinaryOp) (left right : Typed)
    → operands_fit signals (node.Binary op left right) ≡ (typed_fits signals left && typed_fits signals right)
unfolding shape-the_row-Typed-0 hidden-the_row-Typed-0 hidden
operands_binary signals op left right = refl

pub operands_choose : (signals : List Signal) (test on_true on_false : Typed)
    → operands_fit signals (node.Choose test on_true on_false) ≡ (typed_fits signals test && typed_fits signals on_true && typed_fits signals on_false)
unfolding shape-the_row-Typed-0 hidden-the_row-Typed-0 hidden
operands_choose signals test on_true on_false = refl

pub operands_join : (signals : List Signal) (parts : List Typed) → operands_fit signals (node.Join parts) ≡ list_all (typed_fits signals) parts
operands_join signals parts = fits-list signals (hidden-the_row-Typed-1 parts) ∙ ap (list_all (typed_fits signals)) (items_hidden-the_row-Typed-1 parts)

pub operands_repeat : (signals : List Signal) (times : ℕ) (part : Typed) → operands_fit signals (node.Repeat times part) ≡ typed_fits signals part
unfolding shape-the_row-Typed-0 hidden-the_row-Typed-0 hidden
operands_repeat signals times part = refl

pub operands_resize : (signals : List Signal) (arg : Typed) → operands_fit signals (node.Resize arg) ≡ typed_fits signals arg
unfolding shape-the_row-Typed-0 hidden-the_row-Typed-0 hidden
operands_resize signals arg = refl
