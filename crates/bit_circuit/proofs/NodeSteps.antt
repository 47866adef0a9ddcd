-- What the operands of a node are, where the node fits.
use Rattle.std.proofs.Common.{◌≡◌, ℕ, zero, suc, ◌≤◌, ◌<◌, List, [], ◌∷◌, length, map, get_or, Some, arith}
use Rattle.std.specs.Prelude.{IsTrue, slice_get}
use Rattle.std.proofs.lemmas.Grind.{common_steps}
use Rattle.std.proofs.lemmas.List.{length-map}
use Rattle.std.proofs.lemmas.Option.{slice_get_within}
use Rattle.loc_base.proofs.ShelfOptions.{Some-same}
use Rattle.gate_base.specs.declared.literal.Literal.{Literal}
use Rattle.design_core.specs.declared.expression.BinaryOp.{BinaryOp}
use Rattle.design_core.specs.declared.expression.BinaryOp.TheVariants as binary_op
use Rattle.design_core.specs.WellFormed.{same_widths, compared_widths, binary_fits}
use Rattle.word_net.specs.declared.node.Operand.{Operand}
use Rattle.word_net.specs.Fits.{OperandFits}
use Rattle.bit_circuit.specs.Fields.{AreTaken, AreWords}
use Rattle.bit_circuit.specs.Nodes.{bits_at}

-- the width of a word that is there
width-at : (words : List (List Literal)) (n w : ℕ) → slice_get (map length words) n ≡ Some w
    → length (get_or words n []) ≡ w
width-at [] n w is = absurd (omega (arith, slice_get_within [] n w is))
width-at (x ∷ words) zero w is = Some-same is
width-at (x ∷ words) (suc n) w is = width-at words n w is

module _ (words : List (List Literal)) (o : Operand) (fits : OperandFits (map length words) o) where
  pub operand-there : o.node < length words
  operand-there = omega (arith, slice_get_within (map length words) o.node o.width fits, length-map words length)

  pub operand-width : length (bits_at words o) ≡ o.width
  operand-width = width-at words o.node o.width fits

  pub operand-some : AreWords words → 1 ≤ o.width
  operand-some are = omega (arith, operand-width, (are o.node operand-there).0)

  pub operand-few : AreWords words → o.width ≤ 128
  operand-few are = omega (arith, operand-width, (are o.node operand-there).1)

pub ruleset operands = (operand-there, operand-width, operand-some, operand-few)

compared : (width left right : ℕ) → IsTrue (compared_widths width left right) → left ≡ right
compared width left right fits = grind (arith, common_steps)

same : (width left right : ℕ) → IsTrue (same_widths width left right) → left ≡ right
same width left right fits = grind (arith, common_steps)

-- the operands of an operator have the widths that it takes
pub taken : (op : BinaryOp) (width left right : ℕ) → IsTrue (binary_fits op width left right) → AreTaken op left right
taken binary_op.Add width left right fits = tt
taken binary_op.Subtract width left right fits = tt
taken binary_op.Multiply width left right fits = same width left right fits
taken binary_op.And width left right fits = tt
taken binary_op.Or width left right fits = tt
taken binary_op.Xor width left right fits = tt
taken binary_op.Xnor width left right fits = tt
taken binary_op.ShiftLeft width left right fits = tt
taken binary_op.ShiftRight width left right fits = tt
taken binary_op.ArithmeticShiftLeft width left right fits = tt
taken binary_op.ArithmeticShiftRight width left right fits = tt
taken binary_op.Less width left right fits = compared width left right fits
taken binary_op.LessEqual width left right fits = compared width left right fits
taken binary_op.Greater width left right fits = compared width left right fits
taken binary_op.GreaterEqual width left right fits = compared width left right fits
taken binary_op.Equal width left right fits = tt
taken binary_op.NotEqual width left right fits = tt
taken binary_op.LogicalAnd width left right fits = tt
taken binary_op.LogicalOr width left right fits = tt

pub ruleset nodes = (taken)
