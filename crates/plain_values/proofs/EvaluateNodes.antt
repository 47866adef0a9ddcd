-- What is known of a node's operands where the node fits.
use Rattle.std.proofs.Common.{◌≡◌, ℕ, ◌*◌, ◌≤◌, List, length, sym, subst, arith}
use Rattle.std.specs.Prelude.{Bool, ◌&&◌, ◌==◌, IsTrue, ℤ}
use Rattle.std.proofs.lemmas.Bool.Decides.{nat_tests}
use denote.Hole.Carrier.{hidden}
use Rattle.design_core.specs.declared.signal.Signal.{Signal}
use Rattle.design_core.specs.declared.expression.UnaryOp.{UnaryOp}
use Rattle.design_core.specs.declared.expression.BinaryOp.{BinaryOp}
use Rattle.design_core.specs.declared.expression.BinaryOp.TheVariants as binary_op
use Rattle.design_core.specs.declared.expression.Typed.{Typed}
use Rattle.design_core.specs.declared.expression.Node.TheVariants as node
use Rattle.design_core.specs.declared.expression.Node.TheBlock.{shape-the_row-Typed-0, hidden-the_row-Typed-0}
use Rattle.design_core.specs.WellFormed.{is_width, is_signal, words_fit, unary_fits, binary_fits, signs_fit, node_fits, typed_fits}
use Rattle.plain_values.specs.Evaluate.{takes}

second_of_three : (a b c : Bool) → IsTrue (a && b && c) → IsTrue b
second_of_three a b c h = grind (arith, nat_tests)

third_of_three : (a b c : Bool) → IsTrue (a && b && c) → IsTrue c
third_of_three a b c h = grind (arith, nat_tests)

second_of_five : (a b c d e : Bool) → IsTrue (a && b && c && d && e) → IsTrue b
second_of_five a b c d e h = grind (arith, nat_tests)

fourth_of_four : (a b c d : Bool) → IsTrue (a && b && c && d) → IsTrue d
fourth_of_four a b c d h = grind (arith, nat_tests)

pub unary-fits : (signals : List Signal) (width n : ℕ) (signed : Bool) (op : UnaryOp) (arg : Typed) → n ≡ arg.width
    → IsTrue (node_fits signals width signed (node.Unary op arg)) → IsTrue (unary_fits op width n)
unfolding shape-the_row-Typed-0 hidden-the_row-Typed-0 hidden
unary-fits signals width n signed op arg is h =
    subst (λ k. IsTrue (unary_fits op width k)) (sym is) (second_of_three (is_width width) (unary_fits op width arg.width) (typed_fits signals arg) h)

pub unary-arg : (signals : List Signal) (width : ℕ) (signed : Bool) (op : UnaryOp) (arg : Typed) → IsTrue (node_fits signals width signed (node.Unary op arg))
    → IsTrue (typed_fits signals arg)
unfolding shape-the_row-Typed-0 hidden-the_row-Typed-0 hidden
unary-arg signals width signed op arg h = third_of_three (is_width width) (unary_fits op width arg.width) (typed_fits signals arg) h

pub binary-fits : (signals : List Signal) (width n m : ℕ) (signed : Bool) (op : BinaryOp) (left right : Typed) → n ≡ left.width → m ≡ right.width
    → IsTrue (node_fits signals width signed (node.Binary op left right)) → IsTrue (binary_fits op width n m)
unfolding shape-the_row-Typed-0 hidden-the_row-Typed-0 hidden
binary-fits signals width n m signed op left right one other h =
    subst (λ k. IsTrue (binary_fits op width k m)) (sym one)
    (subst (λ k. IsTrue (binary_fits op width left.width k)) (sym other)
    (second_of_five (is_width width) (binary_fits op width left.width right.width) (signs_fit op signed left.signed right.signed)
    (typed_fits signals left) (typed_fits signals right) h))

-- an operator takes operands of widths that stand beside that of a result
pub takes-fits : (op : BinaryOp) (width left right : ℕ) → IsTrue (binary_fits op width left right) → IsTrue (takes op left right)
takes-fits binary_op.Add width left right h = grind (arith, nat_tests)
takes-fits binary_op.Subtract width left right h = grind (arith, nat_tests)
takes-fits binary_op.Multiply width left right h = grind (arith, nat_tests)
takes-fits binary_op.And width left right h = grind (arith, nat_tests)
takes-fits binary_op.Or width left right h = grind (arith, nat_tests)
takes-fits binary_op.Xor width left right h = grind (arith, nat_tests)
takes-fits binary_op.Xnor width left right h = grind (arith, nat_tests)
takes-fits binary_op.ShiftLeft width left right h = grind (arith, nat_tests)
takes-fits binary_op.ShiftRight width left right h = grind (arith, nat_tests)
takes-fits binary_op.ArithmeticShiftLeft width left right h = grind (arith, nat_tests)
takes-fits binary_op.ArithmeticShiftRight width left right h = grind (arith, nat_tests)
takes-fits binary_op.Less width left right h = grind (arith, nat_tests)
takes-fits binary_op.LessEqual width left right h = grind (arith, nat_tests)
takes-fits binary_op.Greater width left right h = grind (arith, nat_tests)
takes-fits binary_op.GreaterEqual width left right h = grind (arith, nat_tests)
takes-fits binary_op.Equal width left right h = grind (arith, nat_tests)
takes-fits binary_op.NotEqual width left right h = grind (arith, nat_tests)
takes-fits binary_op.LogicalAnd width left right h = grind (arith, nat_tests)
takes-fits binary_op.LogicalOr width left right h = grind (arith, nat_tests)

in_five : (a b c d e : Bool) → IsTrue (a && b && c && d && e) → IsTrue d × IsTrue e
in_five a b c d e h = (fourth a b c d e h, fifth a b c d e h)
  where
    fourth : (a b c d e : Bool) → IsTrue (a && b && c && d && e) → IsTrue d
    fourth a b c d e h = grind (arith, nat_tests)

    fifth : (a b c d e : Bool) → IsTrue (a && b && c && d && e) → IsTrue e
    fifth a b c d e h = grind (arith, nat_tests)

pub both-fit : (signals : List Signal) (width : ℕ) (signed : Bool) (op : BinaryOp) (left right : Typed)
    → IsTrue (node_fits signals width signed (node.Binary op left right)) → IsTrue (typed_fits signals left) × IsTrue (typed_fits signals right)
unfolding shape-the_row-Typed-0 hidden-the_row-Typed-0 hidden
both-fit signals width signed op left right h =
    in_five (is_width width) (binary_fits op width left.width right.width) (signs_fit op signed left.signed right.signed)
    (typed_fits signals left) (typed_fits signals right) h

equal_widths : (width one other : ℕ) (a b c : Bool) → IsTrue ((width == one && width == other) && a && b && c) → (one ≡ width) × (other ≡ width)
equal_widths width one other a b c h = grind (arith, nat_tests)

pub choose-widths : (signals : List Signal) (width : ℕ) (signed : Bool) (test on_true on_false : Typed) → IsTrue (node_fits signals width signed (node.Choose test on_true on_false))
    → (on_true.width ≡ width) × (on_false.width ≡ width)
unfolding shape-the_row-Typed-0 hidden-the_row-Typed-0 hidden
choose-widths signals width signed test on_true on_false h =
    equal_widths width on_true.width on_false.width (typed_fits signals test) (typed_fits signals on_true) (typed_fits signals on_false) h

second_in_four : (a b c d : Bool) → IsTrue (a && b && c && d) → IsTrue b
second_in_four a b c d h = grind (arith, nat_tests)

third_in_four : (a b c d : Bool) → IsTrue (a && b && c && d) → IsTrue c
third_in_four a b c d h = grind (arith, nat_tests)

pub choose-test : (signals : List Signal) (width : ℕ) (signed : Bool) (test on_true on_false : Typed) → IsTrue (node_fits signals width signed (node.Choose test on_true on_false))
    → IsTrue (typed_fits signals test)
unfolding shape-the_row-Typed-0 hidden-the_row-Typed-0 hidden
choose-test signals width signed test on_true on_false h =
    second_in_four (width == on_true.width && width == on_false.width) (typed_fits signals test) (typed_fits signals on_true) (typed_fits signals on_false) h

pub choose-second : (signals : List Signal) (width : ℕ) (signed : Bool) (test on_true on_false : Typed) → IsTrue (node_fits signals width signed (node.Choose test on_true on_false))
    → IsTrue (typed_fits signals on_true)
unfolding shape-the_row-Typed-0 hidden-the_row-Typed-0 hidden
choose-second signals width signed test on_true on_false h =
    third_in_four (width == on_true.width && width == on_false.width) (typed_fits signals test) (typed_fits signals on_true) (typed_fits signals on_false) h

pub choose-last : (signals : List Signal) (width : ℕ) (signed : Bool) (test on_true on_false : Typed) → IsTrue (node_fits signals width signed (node.Choose test on_true on_false))
    → IsTrue (typed_fits signals on_false)
unfolding shape-the_row-Typed-0 hidden-the_row-Typed-0 hidden
choose-last signals width signed test on_true on_false h =
    fourth_of_four (width == on_true.width && width == on_false.width) (typed_fits signals test) (typed_fits signals on_true) (typed_fits signals on_false) h

times_fit : (width count : ℕ) (a : Bool) → IsTrue (is_width width && count == width && a) → (count ≡ width) × (width ≤ 128)
times_fit width count a h = grind (arith, nat_tests)

pub repeat-fits : (signals : List Signal) (width times n : ℕ) (signed : Bool) (part : Typed) → n ≡ part.width → IsTrue (node_fits signals width signed (node.Repeat times part))
    → (times * n ≡ width) × (width ≤ 128)
unfolding shape-the_row-Typed-0 hidden-the_row-Typed-0 hidden
repeat-fits signals width times n signed part is h =
    subst (λ k. (times * k ≡ width) × (width ≤ 128)) (sym is) (times_fit width (times * part.width) (typed_fits signals part) h)

offsets_fit : (width count : ℕ) (a b : Bool) → IsTrue (is_width width && a && count == width && b) → count ≡ width
offsets_fit width count a b h = grind (arith, nat_tests)

pub pick-width : (signals : List Signal) (width signal : ℕ) (signed : Bool) (index : Typed) (offsets : List ℤ) → IsTrue (node_fits signals width signed (node.Pick signal index offsets))
    → length offsets ≡ width
unfolding shape-the_row-Typed-0 hidden-the_row-Typed-0 hidden
pick-width signals width signal signed index offsets h = offsets_fit width (length offsets) (is_signal signals signal) (typed_fits signals index) h

pub word-index : (signals : List Signal) (width first count : ℕ) (signed : Bool) (low : ℤ) (index : Typed) (from size : ℕ)
    → IsTrue (node_fits signals width signed (node.Word first count low index from size)) → IsTrue (typed_fits signals index)
unfolding shape-the_row-Typed-0 hidden-the_row-Typed-0 hidden
word-index signals width first count signed low index from size h =
    third_of_three (words_fit signals first count from size) (size == width) (typed_fits signals index) h
