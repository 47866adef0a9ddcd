-- Expressions that are constants (IEEE 1364-2005, 3.5 and 5): they have one value, whatever the signals' bits are.
use Rattle.std.specs.Prelude.{ℕ, ◌==◌, Bool, true, false, if◌then◌else◌, Option, Some, None}
use Rattle.loc_base.specs.Bits.{width_of, value_of}
use Rattle.design_core.specs.declared.expression.Node.{Node, end_of-Typed, more_of-Typed}
use Rattle.design_core.specs.declared.expression.Node.TheVariants.{Const, Resize'}
use Rattle.design_core.specs.Valuation.{Valuation}

-- whether an expression is a constant, or one carried to another width
abbrev pub is_constant : Node → Bool
is_constant (Const _) = true
is_constant (Resize' _ (more_of-Typed _ _ arg end_of-Typed)) = is_constant arg
is_constant _ = false

-- the valuation in which all bits are 0
abbrev pub zeros : Valuation
zeros s b = false

-- the value of an index that is a constant of its own width; one that is carried to another width is a constant as well,
-- but tells no bit: a part by it drives and reads as one by a variable index does
abbrev pub constant_of : ℕ → Node → Option ℕ
constant_of width (Const word) = if width_of word == width then Some (value_of word) else None
constant_of width _ = None
