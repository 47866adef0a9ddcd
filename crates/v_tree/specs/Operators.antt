-- The operators of a mark, and how tightly they bind (IEEE 1364-2005, 5.1 and table 5-4).
use Rattle.std.specs.Prelude.{ℕ, Option, Some, None}
use Rattle.v_lexer.specs.declared.types.terminal.Terminal.{Terminal}
use Rattle.v_lexer.specs.declared.types.terminal.Terminal.TheVariants as mark
use Rattle.v_syntax.specs.declared.operator.Unary.{Unary}
use Rattle.v_syntax.specs.declared.operator.Unary.TheVariants as unary
use Rattle.v_syntax.specs.declared.operator.Binary.{Binary}
use Rattle.v_syntax.specs.declared.operator.Binary.TheVariants as binary
use Rattle.v_syntax.specs.declared.operator.SystemFunction.{SystemFunction}
use Rattle.v_syntax.specs.declared.operator.SystemFunction.TheVariants as system
use Rattle.v_syntax.specs.declared.expression.PartKind.{PartKind}
use Rattle.v_syntax.specs.declared.expression.PartKind.TheVariants as part

-- + - ! ~ & ~& | ~| ^ ~^ ^~
abbrev pub unary_of : Terminal → Option Unary
unary_of mark.Plus = Some unary.Plus
unary_of mark.Minus = Some unary.Minus
unary_of mark.Bang = Some unary.Not
unary_of mark.Tilde = Some unary.Complement
unary_of mark.Ampersand = Some unary.And
unary_of mark.TildeAmpersand = Some unary.Nand
unary_of mark.Bar = Some unary.Or
unary_of mark.TildeBar = Some unary.Nor
unary_of mark.Caret = Some unary.Xor
unary_of mark.TildeCaret = Some unary.Xnor
unary_of _ = None

-- ** * / % + - << >> <<< >>> < <= > >= == != & ^ ~^ ^~ | && ||
abbrev pub binary_of : Terminal → Option Binary
binary_of mark.StarStar = Some binary.Power
binary_of mark.Star = Some binary.Multiply
binary_of mark.Slash = Some binary.Divide
binary_of mark.Percent = Some binary.Modulus
binary_of mark.Plus = Some binary.Add
binary_of mark.Minus = Some binary.Subtract
binary_of mark.ShiftLeft = Some binary.ShiftLeft
binary_of mark.ShiftRight = Some binary.ShiftRight
binary_of mark.SignedShiftLeft = Some binary.SignedShiftLeft
binary_of mark.SignedShiftRight = Some binary.SignedShiftRight
binary_of mark.Less = Some binary.Less
binary_of mark.LessEqual = Some binary.LessEqual
binary_of mark.Greater = Some binary.Greater
binary_of mark.GreaterEqual = Some binary.GreaterEqual
binary_of mark.EqualEqual = Some binary.Equal
binary_of mark.BangEqual = Some binary.NotEqual
binary_of mark.Ampersand = Some binary.And
binary_of mark.Caret = Some binary.Xor
binary_of mark.TildeCaret = Some binary.Xnor
binary_of mark.Bar = Some binary.Or
binary_of mark.AndAnd = Some binary.LogicalAnd
binary_of mark.BarBar = Some binary.LogicalOr
binary_of _ = None

-- the level of a binary operator: the highest binds tightest
abbrev pub strength : Binary → ℕ
strength binary.Power = 11
strength binary.Multiply = 10
strength binary.Divide = 10
strength binary.Modulus = 10
strength binary.Add = 9
strength binary.Subtract = 9
strength binary.ShiftLeft = 8
strength binary.ShiftRight = 8
strength binary.SignedShiftLeft = 8
strength binary.SignedShiftRight = 8
strength binary.Less = 7
strength binary.LessEqual = 7
strength binary.Greater = 7
strength binary.GreaterEqual = 7
strength binary.Equal = 6
strength binary.NotEqual = 6
strength binary.And = 5
strength binary.Xor = 4
strength binary.Xnor = 4
strength binary.Or = 3
strength binary.LogicalAnd = 2
strength binary.LogicalOr = 1

-- $signed $unsigned $clog2
abbrev pub system_of : Terminal → Option SystemFunction
system_of mark.SystemSigned = Some system.Signed
system_of mark.SystemUnsigned = Some system.Unsigned
system_of mark.SystemClog2 = Some system.Clog2
system_of _ = None

-- : +: -:
abbrev pub part_of : Terminal → Option PartKind
part_of mark.Colon = Some part.Range
part_of mark.PlusColon = Some part.Up
part_of mark.MinusColon = Some part.Down
part_of _ = None
