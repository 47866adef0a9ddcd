-- The operators on whole numbers below 2 ^ width (IEEE 1364-2005, 5.1).
use Rattle.std.specs.Prelude.{ℕ, zero, suc, ◌+◌, ◌-◌, ◌*◌, ◌/◌, ◌%◌, ◌^◌, ◌==◌, Bool, not, ◌&&◌, ◌||◌, if◌then◌else◌, nat_le, int_lt, ℤ, pos, bit_and, bit_or, bit_xor, count_ones}
use Rattle.loc_base.specs.Word.{signed_value, extended, shifted_signed}
use Rattle.design_core.specs.declared.expression.UnaryOp.{UnaryOp}
use Rattle.design_core.specs.declared.expression.UnaryOp.TheVariants as unary_op
use Rattle.design_core.specs.declared.expression.BinaryOp.{BinaryOp}
use Rattle.design_core.specs.declared.expression.BinaryOp.TheVariants as binary_op

-- a condition holds where its number is not 0 (5.1.9)
abbrev pub is_true : ℕ → Bool
is_true value = not (value == 0)

abbrev pub one_if : Bool → ℕ
one_if holds = if holds then 1 else 0

-- the largest number of a width: all bits 1
abbrev pub all_ones : ℕ → ℕ
all_ones width = 2 ^ width - 1

-- the whole number that a word means, by its sign (5.1.3)
abbrev pub integer_of : Bool → ℕ → ℕ → ℤ
integer_of signed width value = if signed then signed_value width value else pos value

-- a unary operator on an operand of a width
abbrev pub unary : UnaryOp → ℕ → ℕ → ℕ
unary unary_op.Plus width a = a
unary unary_op.Minus width a = (2 ^ width - a) % 2 ^ width
unary unary_op.LogicalNot width a = one_if (not (is_true a))
unary unary_op.Not width a = all_ones width - a
unary unary_op.ReduceAnd width a = one_if (a == all_ones width)
unary unary_op.ReduceNand width a = one_if (not (a == all_ones width))
unary unary_op.ReduceOr width a = one_if (is_true a)
unary unary_op.ReduceNor width a = one_if (not (is_true a))
unary unary_op.ReduceXor width a = count_ones a % 2
unary unary_op.ReduceXnor width a = 1 - count_ones a % 2

-- whether one word is less than another of its width: by sign where both are signed (5.1.7)
abbrev pub is_less : Bool → ℕ → ℕ → ℕ → Bool
is_less signed width a b = int_lt (integer_of signed width a) (integer_of signed width b)

-- a binary operator; the width is that of the left operand, and of both but for shifts
abbrev pub binary : BinaryOp → ℕ → Bool → Bool → ℕ → ℕ → ℕ
binary binary_op.Add width left_signed right_signed a b = (a + b) % 2 ^ width
binary binary_op.Subtract width left_signed right_signed a b = (a + (2 ^ width - b)) % 2 ^ width
binary binary_op.Multiply width left_signed right_signed a b = a * b % 2 ^ width
binary binary_op.And width left_signed right_signed a b = bit_and a b
binary binary_op.Or width left_signed right_signed a b = bit_or a b
binary binary_op.Xor width left_signed right_signed a b = bit_xor a b
binary binary_op.Xnor width left_signed right_signed a b = all_ones width - bit_xor a b
binary binary_op.ShiftLeft width left_signed right_signed a b = a * 2 ^ b % 2 ^ width
binary binary_op.ShiftRight width left_signed right_signed a b = a / 2 ^ b
binary binary_op.ArithmeticShiftLeft width left_signed right_signed a b = a * 2 ^ b % 2 ^ width
binary binary_op.ArithmeticShiftRight width left_signed right_signed a b = if left_signed then shifted_signed width a b else a / 2 ^ b
binary binary_op.Less width left_signed right_signed a b = one_if (is_less (left_signed && right_signed) width a b)
binary binary_op.LessEqual width left_signed right_signed a b = one_if (not (is_less (left_signed && right_signed) width b a))
binary binary_op.Greater width left_signed right_signed a b = one_if (is_less (left_signed && right_signed) width b a)
binary binary_op.GreaterEqual width left_signed right_signed a b = one_if (not (is_less (left_signed && right_signed) width a b))
binary binary_op.Equal width left_signed right_signed a b = one_if (a == b)
binary binary_op.NotEqual width left_signed right_signed a b = one_if (not (a == b))
binary binary_op.LogicalAnd width left_signed right_signed a b = one_if (is_true a && is_true b)
binary binary_op.LogicalOr width left_signed right_signed a b = one_if (is_true a || is_true b)

-- a word a number of times, one after another (5.1.14)
unfoldable pub repeated : ℕ → ℕ → ℕ → ℕ
repeated zero width a = 0
repeated (suc times) width a = repeated times width a * 2 ^ width + a

-- a word extended by its sign, or cut, to a width (5.5.3)
abbrev pub resized : ℕ → Bool → ℕ → ℕ → ℕ
resized to signed from a = if nat_le from to then extended signed from to a else a % 2 ^ to
