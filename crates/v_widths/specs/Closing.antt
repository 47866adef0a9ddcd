-- What the closing function's own contract says: what a measured expression becomes in a context of a width and a sign.
use Rattle.std.specs.Prelude.{ℕ, ◌%◌, ◌^◌, ◌*◌, ◌/◌, ◌==◌, Bool, if◌then◌else◌, Option, Some, None}
use Rattle.std.specs.Option.{option_or}
use Rattle.loc_base.specs.declared.span.Span.{Span}
use Rattle.loc_base.specs.Word.{shifted_signed}
use Rattle.design_core.specs.declared.expression.Typed.{Typed}
use Rattle.design_core.specs.declared.expression.UnaryOp.{UnaryOp}
use Rattle.design_core.specs.declared.expression.BinaryOp.{BinaryOp}
use Rattle.design_core.specs.declared.expression.BinaryOp.TheVariants as binary_op
use Rattle.design_core.specs.declared.expression.Node.{Node}
use Rattle.design_core.specs.declared.expression.Node.TheVariants as node
use Rattle.design_core.specs.Operator.{is_true, integer_of, resized}
use Rattle.design_core.specs.Operator as operator
use Rattle.v_sizes.specs.declared.error.WidthErr.{WidthErr}
use Rattle.v_sizes.specs.declared.error.WidthErr.TheVariants as fault
use Rattle.v_selects.specs.declared.closed.Closed.{Closed}
use Rattle.v_widths.specs.declared.measured.Measured.{Measured}
use Rattle.v_widths.specs.declared.measured.Shape.TheFolds.{fold-Measured}
use Rattle.v_widths.specs.declared.measured.Shape.TheOpen.{Measured-F, Shape-F}
use Rattle.v_sizes.specs.Literal.{limited}
use Rattle.v_sizes.specs.Operations.{quotient_of, remainder_of}
use Rattle.v_sizes.specs.Sized.{sized, constant, with_sign, with_width, carried}
use Rattle.v_selects.specs.Folding.{number_in, const_number, const_width}

-- by the context's width and sign
abbrev pub Closing : Type 0
Closing = ℕ → Bool → Closed

-- by the width of the node itself, and whether it reads no signal
abbrev pub ShapeClosing : Type 0
ShapeClosing = ℕ → Bool → Closing

abbrev pub closed_with : Typed → Bool → Option WidthErr → Closed
closed_with e is_constant wrong = record { typed = e; constant = is_constant; fault = wrong }

abbrev pub own_typed : Bool → ℕ → ℕ → Bool → Node → Typed
own_typed is_constant own size signed n =
    if is_constant then constant size signed (resized size signed (const_width n) (const_number n)) else carried size signed own n

-- the low bits of a constant
abbrev pub low : ℕ → Typed → ℕ
low size e = number_in e % 2 ^ size

abbrev pub called_typed : Bool → ℕ → Bool → Typed → Typed
called_typed is_constant size signed e =
    if is_constant then constant size signed (resized size signed (const_width e.node) (number_in e)) else with_width size (with_sign signed e)

abbrev pub unary_typed : UnaryOp → Bool → ℕ → Bool → Typed → Typed
unary_typed op is_constant size signed e =
    if is_constant then constant size signed (operator.unary op size (low size e)) else sized size signed (node.Unary op e)

abbrev pub both_typed : BinaryOp → Bool → ℕ → Bool → Typed → Typed → Typed
both_typed op is_constant size signed a b =
    if is_constant then constant size signed (operator.binary op size signed signed (low size a) (low size b)) else sized size signed (node.Binary op a b)

abbrev pub divided_number : Bool → ℕ → Bool → ℕ → ℕ → ℕ
divided_number remainder size signed a b =
    if remainder then remainder_of size (integer_of signed size a) (integer_of signed size b)
    else quotient_of size (integer_of signed size a) (integer_of signed size b)

-- a shift of a constant by another one
abbrev pub shifted_number : BinaryOp → ℕ → Bool → ℕ → ℕ → ℕ
shifted_number binary_op.ShiftRight size signed a b = a / 2 ^ b
shifted_number binary_op.ArithmeticShiftRight size signed a b = if signed then shifted_signed size a b else a / 2 ^ b
shifted_number _ size signed a b = a * 2 ^ b % 2 ^ size

abbrev pub shifted_typed : BinaryOp → Bool → ℕ → Bool → Typed → Typed → Typed
shifted_typed op is_constant size signed a b =
    if is_constant then constant size signed (shifted_number op size signed (low size a) (number_in b)) else sized size signed (node.Binary op a b)

abbrev pub chosen_typed : Bool → ℕ → Bool → Typed → Typed → Typed → Typed
chosen_typed is_constant size signed condition on_true on_false =
    if is_constant then (if is_true (number_in condition) then on_true else on_false) else sized size signed (node.Choose condition on_true on_false)

-- what is wrong with a division by itself
abbrev pub division_fault : Span → Bool → ℕ → Option WidthErr
division_fault span is_constant divisor =
    if is_constant then (if divisor == 0 then Some (fault.ZeroDivisor span) else None) else Some (fault.NotConstant span)

-- the leftmost of three faults
abbrev pub leftmost : Option WidthErr → Option WidthErr → Option WidthErr → Option WidthErr
leftmost one two three = option_or one (option_or two three)

-- ---- each shape, from its operands in their contexts
abbrev pub called_closed : Bool → ℕ → Bool → Closed → Closed
called_closed is_constant size signed e = closed_with (called_typed is_constant size signed e.typed) is_constant e.fault

abbrev pub unary_closed : UnaryOp → Bool → ℕ → Bool → Closed → Closed
unary_closed op is_constant size signed e = closed_with (unary_typed op is_constant size signed e.typed) is_constant e.fault

abbrev pub both_closed : BinaryOp → Bool → ℕ → Bool → Closed → Closed → Closed
both_closed op is_constant size signed a b = closed_with (both_typed op is_constant size signed a.typed b.typed) is_constant (option_or a.fault b.fault)

abbrev pub divided_closed : Span → Bool → Bool → ℕ → Bool → Closed → Closed → Closed
divided_closed span remainder is_constant size signed a b =
    closed_with (constant size signed (divided_number remainder size signed (low size a.typed) (low size b.typed))) is_constant
    (leftmost a.fault b.fault (division_fault span is_constant (low size b.typed)))

abbrev pub shifted_closed : BinaryOp → Bool → ℕ → Bool → Closed → Closed → Closed
shifted_closed op is_constant size signed a b = closed_with (shifted_typed op is_constant size signed a.typed b.typed) is_constant (option_or a.fault b.fault)

abbrev pub raised_closed : ℕ → Option WidthErr → Bool → ℕ → Bool → Closed → Closed
raised_closed exponent wrong is_constant size signed a =
    closed_with (constant size signed (low size a.typed ^ exponent % 2 ^ size)) is_constant (option_or a.fault wrong)

abbrev pub chosen_closed : Bool → ℕ → Bool → Closed → Closed → Closed → Closed
chosen_closed is_constant size signed condition on_true on_false =
    closed_with (chosen_typed is_constant size signed condition.typed on_true.typed on_false.typed) is_constant
    (leftmost condition.fault on_true.fault on_false.fault)

-- ---- one level of the code's tree, its operands as functions of their contexts
abbrev pub shape_step : Shape-F ShapeClosing Closing → ShapeClosing
shape_step (Shape-F.Own n wrong) own is_constant size signed = closed_with (own_typed is_constant own size signed n) is_constant wrong
shape_step (Shape-F.Called argument) own is_constant size signed =
    called_closed is_constant size signed argument
shape_step (Shape-F.Unary op operand) own is_constant size signed = unary_closed op is_constant size signed (operand size signed)
shape_step (Shape-F.Both op left right) own is_constant size signed = both_closed op is_constant size signed (left size signed) (right size signed)
shape_step (Shape-F.Divided division left right) own is_constant size signed =
    divided_closed division.span division.remainder is_constant size signed (left size signed) (right size signed)
shape_step (Shape-F.Shifted op left right) own is_constant size signed = shifted_closed op is_constant size signed (left size signed) right
shape_step (Shape-F.Raised base exponent wrong) own is_constant size signed = raised_closed exponent wrong is_constant size signed (base size signed)
shape_step (Shape-F.Chosen condition on_true on_false) own is_constant size signed =
    chosen_closed is_constant size signed condition (on_true size signed) (on_false size signed)

abbrev pub measured_step : Measured-F ShapeClosing Closing → Closing
measured_step e size signed = e.shape e.width e.constant size signed

abbrev pub closed : Measured → Closing
closed = fold-Measured ShapeClosing Closing shape_step measured_step

-- by itself: in the context of its own width and sign
abbrev pub alone : Measured → Closed
alone e = closed e (limited e.width) e.signed
