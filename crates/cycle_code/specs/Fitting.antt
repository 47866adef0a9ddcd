-- When instructions fit: numbers in range, and the widths that operators take.
use Rattle.std.specs.Prelude.{ℕ, ◌≡◌, ◌<◌, ◌+◌, ◌*◌, ◌==◌, Bool, false, not, ◌&&◌, nat_le, nat_lt, IsTrue, length, take, drop, slice_get, Some}
use Rattle.std.specs.Option.{option_map_or}
use Rattle.std.specs.List.{list_all}
use Rattle.design_core.specs.declared.expression.UnaryOp.{UnaryOp}
use Rattle.design_core.specs.declared.expression.UnaryOp.TheVariants as unary_op
use Rattle.design_core.specs.declared.expression.BinaryOp.{BinaryOp}
use Rattle.design_core.specs.declared.expression.BinaryOp.TheVariants as binary_op
use Rattle.design_core.specs.declared.expression.Typed.{Typed}
use Rattle.design_core.specs.WellFormed.{unary_fits, binary_fits, typed_fits, part_fits}
use Rattle.cycle_code.specs.declared.instruction.Instruction.{Instruction}
use Rattle.cycle_code.specs.declared.instruction.Instruction.TheVariants.{Jump, JumpIf, JumpUnless, JumpEqual, JumpUnlike, JumpNoMatch, Move, Slice, Join, Repeat, Resize, Unary, Binary, Add, Subtract, And, Or, Xor, Not, Equal, Unlike, Value, Set, Put, Assign, Store}
use Rattle.cycle_code.specs.Program.{Program, signals_of, count_of, signal_widths}
use Rattle.cycle_code.specs.Cells.{width_in}

-- the number of a cell
abbrev pub is_cell : Program → ℕ → Bool
is_cell p cell = nat_lt cell (length p.widths)

-- the number of a cell that is no constant
abbrev pub is_open : Program → ℕ → Bool
is_open p cell = is_cell p cell && option_map_or not (slice_get p.fixed cell) false

-- the number of one of the code's own cells, no constant
abbrev pub is_own : Program → ℕ → Bool
is_own p cell = is_open p cell && nat_le (count_of p + count_of p + count_of p) cell

-- a cell of a width
abbrev pub has_width : Program → ℕ → ℕ → Bool
has_width p cell width = width_in p.widths cell == width

-- the number of a place of the design
abbrev pub is_place : Program → ℕ → Bool
is_place p place = nat_lt place (length p.design.places.items)

-- an expression of a width
abbrev pub tree_fits : Program → ℕ → Typed → Bool
tree_fits p width e = typed_fits (signals_of p) e && e.width == width

-- the cells of a unary operator: one of the code's own for the result, and an operand of a width that stands beside its own
abbrev pub operand_fits : Program → UnaryOp → ℕ → ℕ → Bool
operand_fits p op arg to = is_own p to && is_cell p arg && unary_fits op (width_in p.widths to) (width_in p.widths arg)

-- the cells of a binary operator: one of the code's own for the result, and two operands of widths that stand beside its own
abbrev pub operands_fit : Program → BinaryOp → ℕ → ℕ → ℕ → Bool
operands_fit p op left right to =
    is_own p to && is_cell p left && is_cell p right
    && binary_fits op (width_in p.widths to) (width_in p.widths left) (width_in p.widths right)

-- the number of a left side whose parts fit
abbrev pub target_fits : Program → ℕ → Bool
target_fits p target = option_map_or (list_all (part_fits (signals_of p))) (slice_get p.targets target) false

-- whether an instruction of a number fits
abbrev pub fits : Program → ℕ → Instruction → Bool
fits p q (Jump lower) = nat_le lower q
fits p q (JumpIf cond lower) = nat_le lower q && is_cell p cond
fits p q (JumpUnless cond lower) = nat_le lower q && is_cell p cond
fits p q (JumpEqual left right lower) = nat_le lower q && is_cell p left && is_cell p right
fits p q (JumpUnlike left right lower) = nat_le lower q && is_cell p left && is_cell p right
fits p q (JumpNoMatch subject label wild lower) =
    nat_le lower q && is_cell p subject && is_cell p label && is_cell p wild
    && has_width p label (width_in p.widths subject) && has_width p wild (width_in p.widths subject)
fits p q (Move from to) = is_own p to && is_cell p from && has_width p from (width_in p.widths to)
fits p q (Slice arg from width to) =
    is_own p to && is_cell p arg && nat_le 1 width && has_width p to width && nat_le (from + width) (width_in p.widths arg)
fits p q (Join high low to) =
    is_own p to && is_cell p high && is_cell p low && has_width p to (width_in p.widths high + width_in p.widths low)
fits p q (Repeat times part to) =
    is_own p to && is_cell p part && nat_le 1 times && has_width p to (times * width_in p.widths part)
fits p q (Resize arg signed to) = is_own p to && is_cell p arg
fits p q (Unary op arg to) = operand_fits p op arg to
fits p q (Binary op left left_signed right right_signed to) = operands_fit p op left right to
fits p q (Add left right to) = operands_fit p binary_op.Add left right to
fits p q (Subtract left right to) = operands_fit p binary_op.Subtract left right to
fits p q (And left right to) = operands_fit p binary_op.And left right to
fits p q (Or left right to) = operands_fit p binary_op.Or left right to
fits p q (Xor left right to) = operands_fit p binary_op.Xor left right to
fits p q (Not arg to) = operand_fits p unary_op.Not arg to
fits p q (Equal left right to) = operands_fit p binary_op.Equal left right to
fits p q (Unlike left right to) = operands_fit p binary_op.NotEqual left right to
fits p q (Value tree to) = is_own p to && option_map_or (tree_fits p (width_in p.widths to)) (slice_get p.trees tree) false
fits p q (Set place value to) = is_open p to && is_cell p value && is_place p place
fits p q (Put value to) = is_open p to && is_cell p value
fits p q (Assign target place value later) = is_cell p value && is_place p place && target_fits p target
fits p q (Store target value later) = is_cell p value && target_fits p target

-- what a program must be to be run: its first cells are those of the signals and no constants, and each instruction fits
pub record IsSound (p : Program) : Type 0 where
  pub values : length p.values ≡ length p.widths
  pub fixed : length p.fixed ≡ length p.widths
  pub now : take (count_of p) p.widths ≡ signal_widths (signals_of p)
  pub later : take (count_of p) (drop (count_of p) p.widths) ≡ signal_widths (signals_of p)
  pub room : take (count_of p) (drop (count_of p + count_of p) p.widths) ≡ signal_widths (signals_of p)
  pub signals : (cell : ℕ) → cell < count_of p + count_of p + count_of p → slice_get p.fixed cell ≡ Some false
  pub instructions : (q : ℕ) (i : Instruction) → slice_get p.instructions q ≡ Some i → IsTrue (fits p q i)
