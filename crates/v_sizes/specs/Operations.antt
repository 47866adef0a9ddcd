-- Operators of the text: those of sized expressions (IEEE 1364-2005, 5.1), and those that stand in constants alone: division,
-- remainder, power and the ceiling of the logarithm.
use Rattle.std.specs.Prelude.{ℕ, zero, suc, ◌+◌, ◌-◌, ◌/◌, ◌%◌, ◌^◌, Bool, true, false, not, if◌then◌else◌, nat_le, int_lt, ℤ, pos, negsuc}
use Rattle.v_syntax.specs.declared.operator.Unary.{Unary}
use Rattle.v_syntax.specs.declared.operator.Unary.TheVariants as unary
use Rattle.v_syntax.specs.declared.operator.Binary.{Binary}
use Rattle.v_syntax.specs.declared.operator.Binary.TheVariants as binary
use Rattle.design_core.specs.declared.expression.UnaryOp.{UnaryOp}
use Rattle.design_core.specs.declared.expression.UnaryOp.TheVariants as unary_op
use Rattle.design_core.specs.declared.expression.BinaryOp.{BinaryOp}
use Rattle.design_core.specs.declared.expression.BinaryOp.TheVariants as binary_op
use Rattle.design_core.specs.WellFormed.{same_sign}

abbrev pub unary_of : Unary → UnaryOp
unary_of unary.Plus = unary_op.Plus
unary_of unary.Minus = unary_op.Minus
unary_of unary.Not = unary_op.LogicalNot
unary_of unary.Complement = unary_op.Not
unary_of unary.And = unary_op.ReduceAnd
unary_of unary.Nand = unary_op.ReduceNand
unary_of unary.Or = unary_op.ReduceOr
unary_of unary.Nor = unary_op.ReduceNor
unary_of unary.Xor = unary_op.ReduceXor
unary_of unary.Xnor = unary_op.ReduceXnor

-- an operator of two operands by how it takes its operands (Table 5-22)
pub data Class : Type 0 where
  -- both operands are sized by the context
  by_context : BinaryOp → Class
  -- the left operand is sized by the context, the right one by itself
  shift : BinaryOp → Class
  -- both operands are sized to the larger of the two
  comparison : BinaryOp → Class
  -- both operands are sized by themselves
  logical : BinaryOp → Class
  -- constants alone, sized by the context
  quotient : Class
  remainder : Class
  -- constants alone, the exponent sized by itself
  power : Class

abbrev pub class_of : Binary → Class
class_of binary.Power = power
class_of binary.Multiply = by_context binary_op.Multiply
class_of binary.Divide = quotient
class_of binary.Modulus = remainder
class_of binary.Add = by_context binary_op.Add
class_of binary.Subtract = by_context binary_op.Subtract
class_of binary.ShiftLeft = shift binary_op.ShiftLeft
class_of binary.ShiftRight = shift binary_op.ShiftRight
class_of binary.SignedShiftLeft = shift binary_op.ArithmeticShiftLeft
class_of binary.SignedShiftRight = shift binary_op.ArithmeticShiftRight
class_of binary.Less = comparison binary_op.Less
class_of binary.LessEqual = comparison binary_op.LessEqual
class_of binary.Greater = comparison binary_op.Greater
class_of binary.GreaterEqual = comparison binary_op.GreaterEqual
class_of binary.Equal = comparison binary_op.Equal
class_of binary.NotEqual = comparison binary_op.NotEqual
class_of binary.And = by_context binary_op.And
class_of binary.Xor = by_context binary_op.Xor
class_of binary.Xnor = by_context binary_op.Xnor
class_of binary.Or = by_context binary_op.Or
class_of binary.LogicalAnd = logical binary_op.LogicalAnd
class_of binary.LogicalOr = logical binary_op.LogicalOr

-- whether a unary operator's operand is sized by the context
abbrev pub keeps_width : Unary → Bool
keeps_width unary.Plus = true
keeps_width unary.Minus = true
keeps_width unary.Complement = true
keeps_width unary.Not = false
keeps_width unary.And = false
keeps_width unary.Nand = false
keeps_width unary.Or = false
keeps_width unary.Nor = false
keeps_width unary.Xor = false
keeps_width unary.Xnor = false

-- how far a whole number lies from 0
abbrev pub magnitude : ℤ → ℕ
magnitude (pos n) = n
magnitude (negsuc n) = suc n

abbrev pub is_below_0 : ℤ → Bool
is_below_0 z = int_lt z (pos 0)

-- a whole number's word: the number modulo 2 ^ width, of two's complement where it is below 0
abbrev pub word_of : ℕ → Bool → ℕ → ℕ
word_of width negative distance = if negative then (2 ^ width - distance % 2 ^ width) % 2 ^ width else distance % 2 ^ width

-- the quotient cut towards 0, and the remainder with the sign of the left operand (5.1.5)
abbrev pub quotient_of : ℕ → ℤ → ℤ → ℕ
quotient_of width a b = word_of width (not (same_sign (is_below_0 a) (is_below_0 b))) (magnitude a / magnitude b)

abbrev pub remainder_of : ℕ → ℤ → ℤ → ℕ
remainder_of width a b = word_of width (is_below_0 a) (magnitude a % magnitude b)

-- a power modulo 2 ^ width
abbrev pub power_of : ℕ → ℕ → ℤ → ℕ
power_of width base exponent = base ^ magnitude exponent % 2 ^ width

-- the least number of bits that count to a number: 0 for 0 (17.11)
unfoldable pub logarithm_from : ℕ → ℕ → ℕ → ℕ
logarithm_from zero bits n = bits
logarithm_from (suc more) bits n = if nat_le n (2 ^ bits) then bits else logarithm_from more (bits + 1) n

abbrev pub ceiling_of_logarithm : ℕ → ℕ
ceiling_of_logarithm n = logarithm_from 128 0 n
