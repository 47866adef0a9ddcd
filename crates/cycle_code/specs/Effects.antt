-- What an instruction does: what it leaves in the cells, and where the run goes on.
use Rattle.std.specs.Prelude.{ℕ, ◌+◌, ◌*◌, ◌^◌, ◌==◌, Bool, true, false, not, ◌&&◌, if◌then◌else◌, nat_le, bit_or, List, slice_get}
use Rattle.std.specs.Option.{option_map_or}
use Rattle.design_core.specs.declared.expression.UnaryOp.TheVariants as unary_op
use Rattle.design_core.specs.declared.expression.BinaryOp.{BinaryOp}
use Rattle.design_core.specs.declared.expression.BinaryOp.TheVariants as binary_op
use Rattle.design_core.specs.declared.statement.Part.{Part}
use Rattle.design_core.specs.Valuation.{Valuation, bit, number}
use Rattle.design_core.specs.Operator.{is_true, unary, binary, repeated, resized}
use Rattle.design_core.specs.Value.{value}
use Rattle.design_core.specs.After.{Choice, assigned, after_set}
use Rattle.cycle_code.specs.declared.instruction.Instruction.{Instruction}
use Rattle.cycle_code.specs.declared.instruction.Instruction.TheVariants.{Jump, JumpIf, JumpUnless, JumpEqual, JumpUnlike, JumpNoMatch, Move, Slice, Join, Repeat, Resize, Unary, Binary, Add, Subtract, And, Or, Xor, Not, Equal, Unlike, Value, Set, Put, Assign, Store}
use Rattle.cycle_code.specs.Program.{Program, signals_of, count_of}
use Rattle.cycle_code.specs.Cells.{width_in, held, with_held, below, updates_in, with_updates}

-- the number that a cell of a program holds
abbrev pub held_in : Program → Valuation → ℕ → ℕ
held_in p V cell = held p.widths V cell

-- a cell of a program holds the low bits of another number
abbrev pub with_held_in : Program → ℕ → ℕ → Valuation → Valuation
with_held_in p cell value V = with_held p.widths cell value V

-- a cell of a program holds what a binary operator gives for two other ones, both without a sign
abbrev pub with_operated : Program → BinaryOp → ℕ → ℕ → ℕ → Valuation → Valuation
with_operated p op left right to V =
    with_held_in p to (binary op (width_in p.widths left) false false (held_in p V left) (held_in p V right)) V

-- a number assigned to a left side, in the cells of the signals
abbrev pub with_assigned : Program → List Part → ℕ → Bool → Valuation → Valuation
with_assigned p parts value later V =
    with_updates (count_of p) (after_set (signals_of p) parts (bit value) later (updates_in (count_of p) V)) V

-- a number assigned to the left side of a number
abbrev pub with_stored : Program → ℕ → ℕ → Bool → Valuation → Valuation
with_stored p target value later V =
    option_map_or (λ parts. with_assigned p parts value later V) (slice_get p.targets target) V

-- what an instruction leaves in the cells
abbrev pub effect : Program → Choice → Instruction → Valuation → Valuation
effect p choice (Jump lower) V = V
effect p choice (JumpIf cond lower) V = V
effect p choice (JumpUnless cond lower) V = V
effect p choice (JumpEqual left right lower) V = V
effect p choice (JumpUnlike left right lower) V = V
effect p choice (JumpNoMatch subject label wild lower) V = V
effect p choice (Move from to) V = with_held_in p to (held_in p V from) V
effect p choice (Slice arg from width to) V = with_held_in p to (number width (λ b. V arg (from + b))) V
effect p choice (Join high low to) V = with_held_in p to (held_in p V high * 2 ^ width_in p.widths low + held_in p V low) V
effect p choice (Repeat times part to) V = with_held_in p to (repeated times (width_in p.widths part) (held_in p V part)) V
effect p choice (Resize arg signed to) V =
    with_held_in p to (resized (width_in p.widths to) signed (width_in p.widths arg) (held_in p V arg)) V
effect p choice (Unary op arg to) V = with_held_in p to (unary op (width_in p.widths arg) (held_in p V arg)) V
effect p choice (Binary op left left_signed right right_signed to) V =
    with_held_in p to (binary op (width_in p.widths left) left_signed right_signed (held_in p V left) (held_in p V right)) V
effect p choice (Add left right to) V = with_operated p binary_op.Add left right to V
effect p choice (Subtract left right to) V = with_operated p binary_op.Subtract left right to V
effect p choice (And left right to) V = with_operated p binary_op.And left right to V
effect p choice (Or left right to) V = with_operated p binary_op.Or left right to V
effect p choice (Xor left right to) V = with_operated p binary_op.Xor left right to V
effect p choice (Not arg to) V = with_held_in p to (unary unary_op.Not (width_in p.widths arg) (held_in p V arg)) V
effect p choice (Equal left right to) V = with_operated p binary_op.Equal left right to V
effect p choice (Unlike left right to) V = with_operated p binary_op.NotEqual left right to V
effect p choice (Value tree to) V =
    option_map_or (λ e. with_held_in p to (value (signals_of p) (below (count_of p) V) e) V) (slice_get p.trees tree) V
effect p choice (Set place value to) V = with_held_in p to (assigned choice place (held_in p V value)) V
effect p choice (Put value to) V = with_held_in p to (held_in p V value) V
effect p choice (Assign target place value later) V = with_stored p target (assigned choice place (held_in p V value)) later V
effect p choice (Store target value later) V = with_stored p target (held_in p V value) later V

-- the number at which the run goes on after the instruction of a number: a jump leads down alone
abbrev pub jumped : ℕ → ℕ → Bool → ℕ
jumped q lower jumps = if jumps && nat_le lower q then lower else q

-- the number at which the run goes on
abbrev pub next : Program → Instruction → ℕ → Valuation → ℕ
next p (Jump lower) q V = jumped q lower true
next p (JumpIf cond lower) q V = jumped q lower (is_true (held_in p V cond))
next p (JumpUnless cond lower) q V = jumped q lower (not (is_true (held_in p V cond)))
next p (JumpEqual left right lower) q V = jumped q lower (held_in p V left == held_in p V right)
next p (JumpUnlike left right lower) q V = jumped q lower (not (held_in p V left == held_in p V right))
next p (JumpNoMatch subject label wild lower) q V =
    jumped q lower (not (bit_or (held_in p V subject) (held_in p V wild) == bit_or (held_in p V label) (held_in p V wild)))
next p (Move from to) q V = q
next p (Slice arg from width to) q V = q
next p (Join high low to) q V = q
next p (Repeat times part to) q V = q
next p (Resize arg signed to) q V = q
next p (Unary op arg to) q V = q
next p (Binary op left left_signed right right_signed to) q V = q
next p (Add left right to) q V = q
next p (Subtract left right to) q V = q
next p (And left right to) q V = q
next p (Or left right to) q V = q
next p (Xor left right to) q V = q
next p (Not arg to) q V = q
next p (Equal left right to) q V = q
next p (Unlike left right to) q V = q
next p (Value tree to) q V = q
next p (Set place value to) q V = q
next p (Put value to) q V = q
next p (Assign target place value later) q V = q
next p (Store target value later) q V = q
