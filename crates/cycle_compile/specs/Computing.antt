-- Private, for the functions inside this crate: what an instruction leaves to be computed before it.
use Rattle.std.specs.Prelude.{ℕ, ◌≡◌, ◌≤◌, ◌==◌, Bool, false, if◌then◌else◌, length, List, [], ◌∷◌, ◌++◌, IsTrue}
use Rattle.loc_base.specs.Bits.{value_of}
use Rattle.design_core.specs.declared.signal.Signal.{Signal}
use Rattle.design_core.specs.declared.expression.Typed.{Typed}
use Rattle.design_core.specs.declared.expression.Node.{Node, size-Node}
use Rattle.design_core.specs.declared.expression.Node.TheVariants as node
use Rattle.design_core.specs.Valuation.{Valuation}
use Rattle.design_core.specs.Value.{value}
use Rattle.design_core.specs.After.{Choice}
use Rattle.design_core.specs.WellFormed.{typed_fits}
use Rattle.cycle_code.specs.Program.{Program, Grown, signals_of, count_of}
use Rattle.cycle_code.specs.Cells.{HasConstants, width_in, below}
use Rattle.cycle_code.specs.declared.instruction.Instruction.{Instruction}
use Rattle.cycle_code.specs.Effects.{held_in, effect, next}
use Rattle.cycle_compile.specs.Compiling.{value_in, IsPlaceFor, Values, Leads, KeepsBut, Decides}
use Rattle.cycle_compile.specs.Carrying.{Tests, same_values}
use Rattle.cycle_code.specs.Fitting.{is_own, fits}
use Rattle.plain_values.specs.Evaluate.{join_parts}

-- an instruction fits where another one does, and does what that one does
pub record DoesAs (other i : Instruction) : Type 0 where
  pub fitting : (p : Program) (q : ℕ) → IsTrue (fits p q other) → IsTrue (fits p q i)
  pub effects : (p : Program) (choice : Choice) (V : Valuation) → effect p choice i V ≡ effect p choice other V
  pub goes_on : (p : Program) (q : ℕ) (V : Valuation) → next p i q V ≡ next p other q V

-- once what is pushed next leaves the value of an operand in a cell, the value of an expression is left in another
pub record Awaits (old new : Program) (e : Typed) (cell : ℕ) (arg : Typed) (operand : ℕ) : Type 0 where
  pub grown : Grown old new
  pub place : IsPlaceFor new arg operand
  pub serves : (last : Program) → Values new last arg operand → Values old last e cell

-- the same of two operands, the right one pushed first
pub record AwaitsBoth (old new : Program) (e : Typed) (cell : ℕ) (left : Typed) (high : ℕ) (right : Typed) (low : ℕ) : Type 0 where
  pub grown : Grown old new
  pub left_place : IsPlaceFor new left high
  pub right_place : IsPlaceFor new right low
  pub serves : (middle last : Program) → Values new middle right low → Values middle last left high → Values old last e cell

-- a run goes on at one number where a test of the cells passes, and at another where it doesn't
pub record Branches (old new : Program) (test : Program → Valuation → Bool) (yes no : ℕ) : Type 0 where
  pub grown : Grown old new
  pub goes : (p : Program) (choice : Choice) (V : Valuation) → Grown new p → HasConstants p V
      → Leads p choice (length new.instructions) V (if test p V then yes else no) V

-- W is what is left of V where the value of an expression was put into any cell
pub record LeavesFilled (p : Program) (choice : Choice) (old new : Program) (e : Typed) (cell : ℕ) (V : Valuation) : Type 0 where
  pub W : Valuation
  pub leads : Leads p choice (length new.instructions) V (length old.instructions) W
  pub value : held_in p W cell ≡ value_in p V e
  pub keeps : KeepsBut (length old.widths) cell V W

-- what was pushed leaves the value of an expression in a cell, also where it stands in another one already
pub record Fills (old new : Program) (e : Typed) (cell : ℕ) : Type 0 where
  pub grown : Grown old new
  pub leaves : (p : Program) (choice : Choice) (V : Valuation) → Grown new p → HasConstants p V → LeavesFilled p choice old new e cell V

-- whether a node is a constant 0
abbrev pub is_zero : Node → Bool
is_zero (node.Const word) = value_of word == 0
is_zero _ = false

-- once the value of an expression is left in a cell, a run goes on at one of two numbers by it
pub record AwaitsValue (old new : Program) (e : Typed) (cell yes no : ℕ) : Type 0 where
  pub grown : Grown old new
  pub place : IsPlaceFor new e cell
  pub serves : (last : Program) → Values new last e cell → Decides old last e yes no

-- once the values of two operands are left in cells, that of the right one first pushed, a run goes on at one number where they are
-- equal, and at another where they aren't
pub record AwaitsOperands (old new : Program) (left : Typed) (high : ℕ) (right : Typed) (low yes no : ℕ) : Type 0 where
  pub grown : Grown old new
  pub left_place : IsPlaceFor new left high
  pub right_place : IsPlaceFor new right low
  pub serves : (middle last : Program) → Values new middle right low → Values middle last left high
      → Tests old last (length last.instructions) (same_values left right) yes no

-- an expression that fits where another one does, has its number and is no deeper
pub record IsBare (e core : Typed) : Type 0 where
  pub fits : (signals : List Signal) → IsTrue (typed_fits signals e) → IsTrue (typed_fits signals core)
  pub value : (signals : List Signal) (V : Valuation) → value signals V core ≡ value signals V e
  pub depth : size-Node core.node ≤ size-Node e.node

-- W is what is left of V where the value of a concatenation was put into a cell
pub record LeavesJoined (p : Program) (choice : Choice) (old new : Program) (parts : List Typed) (cell : ℕ) (V : Valuation) : Type 0 where
  pub W : Valuation
  pub leads : Leads p choice (length new.instructions) V (length old.instructions) W
  pub value : held_in p W cell ≡ join_parts (signals_of p) (below (count_of p) V) 0 parts
  pub keeps : KeepsBut (length old.widths) cell V W

-- what was pushed leaves the value of a concatenation in a cell, and no other cell that was there is changed
pub record Joins (old new : Program) (parts : List Typed) (cell : ℕ) : Type 0 where
  pub grown : Grown old new
  pub leaves : (p : Program) (choice : Choice) (V : Valuation) → Grown new p → HasConstants p V → LeavesJoined p choice old new parts cell V

-- once what is pushed next leaves the value of a last part in one cell, and then that of the parts to its left, of a width, in
-- another, the value of all is left in a third
pub record AwaitsPart (old new : Program) (part : Typed) (cell left high low : ℕ) : Type 0 where
  pub grown : Grown old new
  pub part_place : IsPlaceFor new part low
  pub high_own : IsTrue (is_own new high)
  pub high_width : width_in new.widths high ≡ left
  pub serves : (parts : List Typed) (middle last : Program) → Values new middle part low → Joins middle last parts high
      → Joins old last (parts ++ part ∷ []) cell

-- once the values of the first two parts are left in cells, that of the right one first pushed, the value of both is left in another
pub record AwaitsPair (old new : Program) (left right : Typed) (cell high low : ℕ) : Type 0 where
  pub grown : Grown old new
  pub left_place : IsPlaceFor new left high
  pub right_place : IsPlaceFor new right low
  pub serves : (middle last : Program) → Values new middle right low → Values middle last left high
      → Joins old last (left ∷ right ∷ []) cell
