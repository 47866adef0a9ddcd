-- What compiling leaves: instructions that compute the value of an expression, decide a condition, or carry out a statement,
-- in every program that the code grows into.
use Rattle.std.specs.Prelude.{ℕ, ◌≡◌, ◌≢◌, ◌<◌, ◌≤◌, ◌+◌, Bool, true, false, if◌then◌else◌, IsTrue, length}
use Rattle.design_core.specs.declared.expression.Typed.{Typed}
use Rattle.design_core.specs.declared.expression.Node.{Node}
use Rattle.design_core.specs.declared.expression.Node.TheVariants as node
use Rattle.design_core.specs.declared.statement.Stmt.{Stmt}
use Rattle.design_core.specs.Valuation.{Valuation}
use Rattle.design_core.specs.Operator.{is_true}
use Rattle.design_core.specs.Value.{value}
use Rattle.design_core.specs.After.{Choice, after}
use Rattle.cycle_code.specs.Program.{Program, Grown, signals_of, count_of}
use Rattle.cycle_code.specs.Cells.{width_in, below, updates_in, HasConstants}
use Rattle.cycle_code.specs.Effects.{held_in}
use Rattle.cycle_code.specs.Fitting.{is_cell, is_own}
use Rattle.cycle_code.specs.Running.{run}

-- the value of an expression over the words that are read
abbrev pub value_in : Program → Valuation → Typed → ℕ
value_in p V e = value (signals_of p) (below (count_of p) V) e

-- a constant or a whole signal: its value stands in a cell already
abbrev pub is_leaf : Node → Bool
is_leaf (node.Const _) = true
is_leaf (node.Whole _) = true
is_leaf _ = false

-- a cell where the value of an expression stands, or is to be left: one of the code's own, which is no constant
pub record IsPlaceFor (p : Program) (e : Typed) (cell : ℕ) : Type 0 where
  pub is_there : IsTrue (is_cell p cell)
  pub width : width_in p.widths cell ≡ e.width
  pub stands : is_leaf e.node ≡ true → (q : Program) (V : Valuation) → Grown p q → HasConstants q V → held_in q V cell ≡ value_in q V e
  pub own : is_leaf e.node ≡ false → IsTrue (is_own p cell)

-- a run that stands at a number with some cells goes on, for as long as it stays above `to`, as one that stands at a lower number
-- with others
pub record Leads (p : Program) (choice : Choice) (at : ℕ) (V : Valuation) (lower : ℕ) (W : Valuation) : Type 0 where
  pub leads_down : lower ≤ at
  pub run : (to : ℕ) → to ≤ lower → run p choice to at V ≡ run p choice to lower W
  pub constants : HasConstants p W

-- the cells below a number are as they were, but for one
abbrev pub KeepsBut : ℕ → ℕ → Valuation → Valuation → Type 0
KeepsBut count but V W = (cell b : ℕ) → cell < count → cell ≢ but → W cell b ≡ V cell b

-- they all are
abbrev pub Keeps : ℕ → Valuation → Valuation → Type 0
Keeps count V W = (cell b : ℕ) → cell < count → W cell b ≡ V cell b

-- ---- an expression
-- W is what is left of V where the value was put into its cell; where it stood there already, no cell is changed
pub record LeavesValue (p : Program) (choice : Choice) (old new : Program) (e : Typed) (cell : ℕ) (V : Valuation) : Type 0 where
  pub W : Valuation
  pub leads : Leads p choice (length new.instructions) V (length old.instructions) W
  pub value : held_in p W cell ≡ value_in p V e
  pub keeps : KeepsBut (length old.widths) cell V W
  pub still : is_leaf e.node ≡ true → Keeps (length old.widths) V W

-- what was pushed leaves the value of an expression in a cell, and no other cell that was there is changed
pub record Values (old new : Program) (e : Typed) (cell : ℕ) : Type 0 where
  pub grown : Grown old new
  pub leaves : (p : Program) (choice : Choice) (V : Valuation) → Grown new p → HasConstants p V → LeavesValue p choice old new e cell V

-- ---- a condition
pub record GoesOn (p : Program) (choice : Choice) (old new : Program) (e : Typed) (yes no : ℕ) (V : Valuation) : Type 0 where
  pub W : Valuation
  pub leads : Leads p choice (length new.instructions) V (if is_true (value_in p V e) then yes else no) W
  pub keeps : Keeps (length old.widths) V W

-- what was pushed goes on at one number where the value of an expression isn't 0, and at another where it is; no cell that was there is
-- changed
pub record Decides (old new : Program) (e : Typed) (yes no : ℕ) : Type 0 where
  pub grown : Grown old new
  pub goes : (p : Program) (choice : Choice) (V : Valuation) → Grown new p → HasConstants p V → GoesOn p choice old new e yes no V

-- ---- a statement
pub record Leaves (p : Program) (choice : Choice) (old new : Program) (statement : Stmt) (V : Valuation) : Type 0 where
  pub W : Valuation
  pub leads : Leads p choice (length new.instructions) V (length old.instructions) W
  pub updates : updates_in (count_of p) W ≡ after (signals_of p) choice statement (updates_in (count_of p) V)
  pub keeps : (cell b : ℕ) → count_of p + count_of p ≤ cell → cell < length old.widths → W cell b ≡ V cell b

-- what was pushed carries out a statement, and changes no other cell that was there
pub record Runs (old new : Program) (statement : Stmt) : Type 0 where
  pub grown : Grown old new
  pub leaves : (p : Program) (choice : Choice) (V : Valuation) → Grown new p → HasConstants p V → Leaves p choice old new statement V
