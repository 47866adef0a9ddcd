-- What the functions for one instruction ask of cells, and what they leave: `operands_fit` and `with_operated` over the widths alone,
-- and what `Value` leaves.
use Rattle.std.specs.Prelude.{ℕ, ◌<◌, false, IsTrue, List, length, slice_get}
use Rattle.std.specs.Option.{option_map_or}
use Rattle.design_core.specs.declared.expression.BinaryOp.{BinaryOp}
use Rattle.design_core.specs.Valuation.{Valuation}
use Rattle.design_core.specs.WellFormed.{binary_fits}
use Rattle.design_core.specs.Operator.{binary}
use Rattle.design_core.specs.Value.{value}
use Rattle.cycle_code.specs.Program.{Program, signals_of, count_of}
use Rattle.cycle_code.specs.Cells.{width_in, held, with_held, below}
use Rattle.cycle_code.specs.Effects.{with_held_in}

-- the cells of a binary operator: two operands, and one for the result, of widths that stand beside each other
pub record AreOperands (op : BinaryOp) (widths : List ℕ) (left right to : ℕ) : Type 0 where
  pub first : left < length widths
  pub second : right < length widths
  pub target : to < length widths
  pub fits : IsTrue (binary_fits op (width_in widths to) (width_in widths left) (width_in widths right))

-- a cell holds what the operator gives for the operands, both without a sign
abbrev pub with_result : BinaryOp → List ℕ → ℕ → ℕ → ℕ → Valuation → Valuation
with_result op widths left right to V =
    with_held widths to (binary op (width_in widths left) false false (held widths V left) (held widths V right)) V

-- a cell of a program holds the value of the expression of a number, in the words that are read
abbrev pub with_computed : Program → ℕ → ℕ → Valuation → Valuation
with_computed p tree to V =
    option_map_or (λ e. with_held_in p to (value (signals_of p) (below (count_of p) V) e) V) (slice_get p.trees tree) V
