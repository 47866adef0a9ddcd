-- What a constant's node holds.
use Rattle.std.specs.Prelude.{ℕ}
use Rattle.loc_base.specs.Bits.{width_of, value_of}
use Rattle.design_core.specs.declared.expression.Typed.{Typed}
use Rattle.design_core.specs.declared.expression.Node.{Node}
use Rattle.design_core.specs.declared.expression.Node.TheVariants.{Const}

-- the number of a constant; 0 where there is none
abbrev pub const_number : Node → ℕ
const_number (Const word) = value_of word
const_number _ = 0

-- the width of its word; 1 where there is none
abbrev pub const_width : Node → ℕ
const_width (Const word) = width_of word
const_width _ = 1

abbrev pub number_in : Typed → ℕ
number_in e = const_number e.node
