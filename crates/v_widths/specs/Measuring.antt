-- What the pass up gives of each form, from what it gave of the operands: its width and its sign by itself (IEEE 1364-2005,
-- 5.4.1 and 5.5.1), with the operands that no context sizes finished.
use Rattle.std.specs.Prelude.{ℕ, Bool, true, false, not, ◌&&◌, ◌||◌, if◌then◌else◌, max, List, Option, None}
use Rattle.std.specs.Option.{option_or}
use Rattle.loc_base.specs.declared.span.Span.{Span}
use Rattle.v_syntax.specs.declared.operator.Unary.{Unary}
use Rattle.design_core.specs.declared.expression.BinaryOp.{BinaryOp}
use Rattle.design_core.specs.declared.expression.BinaryOp.TheVariants as binary_op
use Rattle.design_core.specs.declared.expression.Node.{Node}
use Rattle.design_core.specs.declared.expression.Node.TheVariants as node
use Rattle.design_core.specs.Constant.{zeros}
use Rattle.design_core.specs.Operator.{is_true, one_if}
use Rattle.design_core.specs.Operator as operator
use Rattle.v_sizes.specs.declared.error.WidthErr.{WidthErr}
use Rattle.v_sizes.specs.declared.error.WidthErr.TheVariants as fault
use Rattle.v_sizes.specs.Literal.{limited, literal_width, literal_signed, literal_value}
use Rattle.v_sizes.specs.Operations.{unary_of, Class, by_context, shift, comparison, logical, quotient, remainder, power, keeps_width, is_below_0, magnitude}
use Rattle.v_sizes.specs.Refusals.{when, literal_fault}
use Rattle.v_sizes.specs.Sizing.{own, known}
use Rattle.v_selects.specs.declared.closed.Closed.{Closed}
use Rattle.v_selects.specs.declared.leaf.Leaf.{Leaf}
use Rattle.v_selects.specs.Leaves.{leaf}
use Rattle.v_selects.specs.Taken.{taken}
use Rattle.v_widths.specs.declared.measured.Measured.{Measured}
use Rattle.v_widths.specs.declared.measured.Shape.TheVariants as shape
use Rattle.v_widths.specs.Closing.{closed, alone, low}

-- ---- what has its width by itself
abbrev pub leaf_measured : Leaf → Measured
leaf_measured l = record { width = l.width; signed = l.signed; constant = l.constant; shape = shape.Own l.node l.fault }

abbrev pub own_measured : ℕ → Bool → Bool → Option WidthErr → ℕ → Node → Measured
own_measured width signed constant fault number n = leaf_measured (leaf width signed constant fault number n)

abbrev pub number_measured : Span → List ℕ → Measured
number_measured span text = own_measured (literal_width text) (literal_signed text) true (literal_fault span text) (literal_value text) (node.Whole 0)

-- the number of a finished operand that is a constant
abbrev pub number_of : Closed → ℕ
number_of e = own (taken e) zeros

-- one bit of an operand by itself
abbrev pub reduced : Unary → Closed → Measured
reduced op e = own_measured 1 false e.constant e.fault (operator.unary (unary_of op) (limited e.typed.width) (number_of e)) (node.Unary (unary_of op) e.typed)

-- one bit of two operands in one context
abbrev pub compared : BinaryOp → ℕ → Bool → Closed → Closed → Measured
compared op size signed left right =
    own_measured 1 false (left.constant && right.constant) (option_or left.fault right.fault)
    (operator.binary op size signed signed (low size left.typed) (low size right.typed)) (node.Binary op left.typed right.typed)

abbrev pub logical_number : BinaryOp → ℕ → ℕ → ℕ
logical_number binary_op.LogicalAnd a b = one_if (is_true a && is_true b)
logical_number _ a b = one_if (is_true a || is_true b)

-- one bit of two operands by themselves
abbrev pub joined_truth : BinaryOp → Closed → Closed → Measured
joined_truth op left right =
    own_measured 1 false (left.constant && right.constant) (option_or left.fault right.fault) (logical_number op (number_of left) (number_of right))
    (node.Binary op left.typed right.typed)

-- ---- what the context sizes
abbrev pub unary_measured : Unary → Measured → Measured
unary_measured op e =
    if keeps_width op
    then record { width = e.width; signed = e.signed; constant = e.constant; shape = shape.Unary (unary_of op) e }
    else reduced op (alone e)

abbrev pub divided_measured : Span → Bool → Measured → Measured → Measured
divided_measured span is_remainder left right =
    record { width = max left.width right.width; signed = left.signed && right.signed; constant = left.constant && right.constant; shape = shape.Divided (record { span = span; remainder = is_remainder }) left right }

-- what is wrong with an exponent, or with a power that isn't constant
abbrev pub exponent_fault : Span → Bool → Closed → Option WidthErr
exponent_fault span constant exponent = when (not constant || is_below_0 (known (taken exponent))) (fault.NotConstant span) None

abbrev pub raised_measured : Span → Measured → Closed → Measured
raised_measured span base exponent =
    record { width = base.width; signed = base.signed; constant = base.constant && exponent.constant; shape = shape.Raised base (magnitude (known (taken exponent))) (option_or exponent.fault (exponent_fault span (base.constant && exponent.constant) exponent)) }

abbrev pub both_measured : BinaryOp → Measured → Measured → Measured
both_measured op left right =
    record { width = max left.width right.width; signed = left.signed && right.signed; constant = left.constant && right.constant; shape = shape.Both op left right }

abbrev pub shifted_measured : BinaryOp → Measured → Closed → Measured
shifted_measured op left right =
    record { width = left.width; signed = left.signed; constant = left.constant && right.constant; shape = shape.Shifted op left right }

abbrev pub compared_measured : BinaryOp → Measured → Measured → Measured
compared_measured op left right =
    let size = limited (max left.width right.width) in
    let signed = left.signed && right.signed in
    compared op size signed (closed left size signed) (closed right size signed)

-- an operator of two operands (Table 5-22)
abbrev pub binary_measured : Span → Class → Measured → Measured → Measured
binary_measured span (by_context op) left right = both_measured op left right
binary_measured span (shift op) left right = shifted_measured op left (alone right)
binary_measured span (comparison op) left right = compared_measured op left right
binary_measured span (logical op) left right = joined_truth op (alone left) (alone right)
binary_measured span quotient left right = divided_measured span false left right
binary_measured span remainder left right = divided_measured span true left right
binary_measured span power left right = raised_measured span left (alone right)

-- a function that changes the sign alone
abbrev pub called_measured : Bool → Closed → Measured
called_measured signed argument =
    record { width = argument.typed.width; signed = signed; constant = argument.constant; shape = shape.Called argument }

abbrev pub conditional_measured : Closed → Measured → Measured → Measured
conditional_measured condition on_true on_false =
    record { width = max on_true.width on_false.width; signed = on_true.signed && on_false.signed; constant = condition.constant && on_true.constant && on_false.constant; shape = shape.Chosen condition on_true on_false }
