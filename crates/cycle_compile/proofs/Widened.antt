-- Unsigned widenings leave the number of what they widen.
use Rattle.std.proofs.Common.{◌≡◌, ℕ, ◌≤◌, ◌<◌, ◌%◌, ◌^◌, List, arith, refl, sym, ◌∙◌, ap, rules, subst}
use Rattle.std.specs.Prelude.{Bool, true, false, not, ◌==◌, if◌then◌else◌}
use Rattle.std.proofs.lemmas.Bool.{le-leb, eqb-true}
use denote.Hole.Carrier.{hidden}
use Rattle.loc_base.specs.Bits.{value_of}
use Rattle.design_core.specs.declared.signal.Signal.{Signal}
use Rattle.design_core.specs.declared.expression.Typed.{Typed}
use Rattle.design_core.specs.declared.expression.Node.{Node, size-Node}
use Rattle.design_core.specs.declared.expression.Node.TheVariants as node
use Rattle.design_core.specs.declared.expression.Node.TheBlock.{shape-the_row-Typed-0, hidden-the_row-Typed-0}
use Rattle.design_core.specs.declared.expression.Node.TheViews.{the_lemmas}
use Rattle.design_core.specs.declared.expression.BinaryOp.{BinaryOp}
use Rattle.design_core.specs.declared.expression.BinaryOp.TheVariants as binary_op
use Rattle.design_core.specs.Valuation.{Valuation}
use Rattle.design_core.specs.Operator.{is_true, binary, resized}
use Rattle.design_core.specs.Value.{node_value, value}
use Rattle.design_core.proofs.ExpressionSteps.{value_resize, value_binary}
use Rattle.plain_values.proofs.EvaluateTests.{equal-holds, not_equal-holds}
use Rattle.cycle_code.specs.Program.{Program, signals_of, count_of}
use Rattle.cycle_code.specs.Cells.{below}
use Rattle.cycle_compile.specs.Compiling.{value_in}
use Rattle.cycle_compile.specs.Carrying.{same_values}
use Rattle.cycle_compile.specs.Computing.{is_zero, IsBare}
use Rattle.cycle_compile.proofs.OperatorFits.{resize-operand}

-- ---- one widening
resized-wider : (to from a : ℕ) → from ≤ to → resized to false from a ≡ a
resized-wider to from a h = ap (λ t. if t then a else a % 2 ^ to) (le-leb from to h)

argument-less : (arg : Typed) → size-Node arg.node < size-Node (node.Resize arg)
unfolding shape-the_row-Typed-0 hidden-the_row-Typed-0 hidden
argument-less arg = search (rules, the_lemmas)

pub widened-value : (signals : List Signal) (V : Valuation) (e arg : Typed) → e.node ≡ node.Resize arg → arg.signed ≡ false
    → arg.width ≤ e.width
    → value signals V arg ≡ value signals V e
widened-value signals V e arg is unsigned wide =
    sym (ap (node_value signals V e.width) is ∙ value_resize signals V e.width arg
    ∙ ap (λ s. resized e.width s arg.width (value signals V arg)) unsigned
    ∙ resized-wider e.width arg.width (value signals V arg) wide)

-- ---- all around an expression
IsBare-none : (e : Typed) → IsBare e e
IsBare-none e = record { fits = λ signals fit. fit; value = λ signals V. refl; depth = omega arith }

pub IsBare-more : (e arg core : Typed) → e.node ≡ node.Resize arg → arg.signed ≡ false → arg.width ≤ e.width → IsBare arg core
    → IsBare e core
IsBare-more e arg core is unsigned wide bare =
    let deeper : size-Node arg.node < size-Node e.node = subst (λ n. size-Node arg.node < size-Node n) (sym is) (argument-less arg) in
    let most : size-Node core.node ≤ size-Node arg.node = bare.depth in
    record {
      fits = λ signals fit. bare.fits signals (resize-operand signals e arg is fit);
      value = λ signals V. bare.value signals V ∙ widened-value signals V e arg is unsigned wide;
      depth = omega arith;
    }

-- ---- tests of equality
compared : (op : BinaryOp) (p : Program) (V : Valuation) (e left right : Typed) → e.node ≡ node.Binary op left right
    → value_in p V e ≡ binary op left.width left.signed right.signed (value_in p V left) (value_in p V right)
compared op p V e left right is =
    ap (node_value (signals_of p) (below (count_of p) V) e.width) is
    ∙ value_binary (signals_of p) (below (count_of p) V) e.width op left right

bare-same : (p : Program) (V : Valuation) (left right high low : Typed) → IsBare left high → IsBare right low
    → (value_in p V left == value_in p V right) ≡ same_values high low p V
bare-same p V left right high low one other =
    ap (λ n. n == value_in p V right) (sym (one.value (signals_of p) (below (count_of p) V)))
    ∙ ap (λ n. value_in p V high == n) (sym (other.value (signals_of p) (below (count_of p) V)))

pub equal-bare : (e left right high low : Typed) → e.node ≡ node.Binary binary_op.Equal left right → IsBare left high → IsBare right low
    → (p : Program) (V : Valuation) → is_true (value_in p V e) ≡ same_values high low p V
equal-bare e left right high low is one other p V =
    ap is_true (compared binary_op.Equal p V e left right is)
    ∙ sym (equal-holds binary_op.Equal left.width (value_in p V left) (value_in p V right) left.signed right.signed refl)
    ∙ bare-same p V left right high low one other

pub not_equal-bare : (e left right high low : Typed) → e.node ≡ node.Binary binary_op.NotEqual left right → IsBare left high
    → IsBare right low
    → (p : Program) (V : Valuation) → is_true (value_in p V e) ≡ not (same_values high low p V)
not_equal-bare e left right high low is one other p V =
    ap is_true (compared binary_op.NotEqual p V e left right is)
    ∙ sym (not_equal-holds binary_op.NotEqual left.width (value_in p V left) (value_in p V right) left.signed right.signed refl)
    ∙ ap not (bare-same p V left right high low one other)

-- ---- tests against 0
zero-value : (signals : List Signal) (V : Valuation) (e : Typed) → is_zero e.node ≡ true → value signals V e ≡ 0
zero-value signals V e zero = at e.node zero
  where
    at : (n : Node) → is_zero n ≡ true → node_value signals V e.width n ≡ 0
    at (node.Const word) is = eqb-true (value_of word) 0 is
    at (node.Whole s) is = absurd cc
    at (node.Slice s from size) is = absurd cc
    at (node.Pick' s _ index offsets) is = absurd cc
    at (node.Word' first count low _ index from size) is = absurd cc
    at (node.Unary' op _ arg) is = absurd cc
    at (node.Binary' op _ left _ right) is = absurd cc
    at (node.Choose' _ test _ on_true _ on_false) is = absurd cc
    at (node.Join' _ parts) is = absurd cc
    at (node.Repeat' times _ part) is = absurd cc
    at (node.Resize' _ arg) is = absurd cc

pub equal-zero : (e left right : Typed) → e.node ≡ node.Binary binary_op.Equal left right → is_zero right.node ≡ true
    → (p : Program) (V : Valuation) → is_true (value_in p V e) ≡ not (is_true (value_in p V left))
equal-zero e left right is zero p V =
    equal-bare e left right left right is (IsBare-none left) (IsBare-none right) p V
    ∙ ap (λ n. value_in p V left == n) (zero-value (signals_of p) (below (count_of p) V) right zero)
    ∙ twice (value_in p V left == 0)
  where
    twice : (b : Bool) → b ≡ not (not b)
    twice true = refl
    twice false = refl

pub not_equal-zero : (e left right : Typed) → e.node ≡ node.Binary binary_op.NotEqual left right → is_zero right.node ≡ true
    → (p : Program) (V : Valuation) → is_true (value_in p V e) ≡ is_true (value_in p V left)
not_equal-zero e left right is zero p V =
    not_equal-bare e left right left right is (IsBare-none left) (IsBare-none right) p V
    ∙ ap (λ n. not (value_in p V left == n)) (zero-value (signals_of p) (below (count_of p) V) right zero)

-- ---- tests of widenings
pub widened-holds : (e arg : Typed) → e.node ≡ node.Resize arg → arg.signed ≡ false → arg.width ≤ e.width
    → (p : Program) (V : Valuation) → is_true (value_in p V e) ≡ is_true (value_in p V arg)
widened-holds e arg is unsigned wide p V = ap is_true (sym (widened-value (signals_of p) (below (count_of p) V) e arg is unsigned wide))
