-- What the laws are said of, and where a freed statement goes (IEEE 1364-2005, 9.4 and 9.5).
use Rattle.std.specs.Prelude.{ℕ, ◌≡◌, false, if◌then◌else◌, List}
use Rattle.loc_base.specs.declared.bits.Bits.{Bits}
use Rattle.design_core.specs.declared.signal.Signal.{Signal}
use Rattle.design_core.specs.declared.place.Place.{Place}
use Rattle.design_core.specs.declared.expression.Typed.{Typed}
use Rattle.design_core.specs.declared.statement.Stmt.{Stmt, end_of-Stmt, more_of-Stmt}
use Rattle.design_core.specs.declared.statement.Stmt.TheVariants.{Nothing, Block', If', Case', Set}
use Rattle.design_core.specs.declared.design.Design.{Design}
use Rattle.design_core.specs.declared.trace.Trace.{Trace}
use Rattle.design_core.specs.Works.{Groups}
use Rattle.design_core.specs.Valuation.{Valuation}
use Rattle.design_core.specs.Constant.{is_constant}
use Rattle.design_core.specs.Operator.{is_true}
use Rattle.design_core.specs.Value.{value}
use Rattle.design_core.specs.After.{Choice, Updates, after, after_case}
use Rattle.freed_conditions.specs.Kept.{Next, behind, behind_one, truth, whole, kept_of, subject_of, keep}
use Rattle.freed_conditions.specs.Widths.{widths, widths_in}
use Rattle.freed_conditions.specs.Freed.{freed, freed_in}

-- where the condition of an `if` isn't a constant, the freed statement keeps it and then takes the arm that its net names, both freed;
-- a `case` likewise the item that its net names
abbrev pub GoesByItsNet : List Signal → Choice → Next → Updates → Stmt → Type 0
GoesByItsNet signals choice n m (If' test _ (more_of-Stmt on_true end_of-Stmt) _ (more_of-Stmt on_false end_of-Stmt)) =
    is_constant test.node ≡ false
    → after signals choice (freed n (If' test _ (more_of-Stmt on_true end_of-Stmt) _ (more_of-Stmt on_false end_of-Stmt))) m
    ≡ (let k = after signals choice (keep n (truth test)) m in
    if is_true (value signals k.now (whole 1 false n.signal))
    then after signals choice (freed (behind_one n) on_true) k
    else after signals choice (freed (behind (widths on_true) (behind_one n)) on_false) k)
GoesByItsNet signals choice n m (Case' subject shape items _ (more_of-Stmt other end_of-Stmt) wild) =
    is_constant subject.node ≡ false
    → after signals choice (freed n (Case' subject shape items _ (more_of-Stmt other end_of-Stmt) wild)) m
    ≡ (let k = after signals choice (keep n (kept_of subject)) m in
    after_case signals choice (value signals k.now (subject_of subject n.signal)) (freed_in (behind_one n) items) k
    (after signals choice (freed (behind (widths_in items) (behind_one n)) other) k))
GoesByItsNet signals choice n m Nothing = Unit {0}
GoesByItsNet signals choice n m (Block' _ _) = Unit {0}
GoesByItsNet signals choice n m (Set _ _ _ _) = Unit {0}

-- an expression over some signals, more signals behind them, and a valuation
pub record MoreSignals : Type 0 where
  pub signals : List Signal
  pub hidden : List Signal
  pub values : Valuation
  pub expression : Typed

-- a condition over some signals and more behind them, what its net and place are, and what it begins with
pub record OneCondition : Type 0 where
  pub signals : List Signal
  pub hidden : List Signal
  pub choice : Choice
  pub next : Next
  pub condition : Typed
  pub updates : Updates

-- a statement over some signals and places and more signals behind them, the first net and place of its conditions, and what it begins with
pub record OneStatement : Type 0 where
  pub signals : List Signal
  pub hidden : List Signal
  pub places : List Place
  pub choice : Choice
  pub next : Next
  pub statement : Stmt
  pub updates : Updates

-- such a statement, and what the freed one begins with
pub record TwoStatements : Type 0 where
  pub of : OneStatement
  pub freed : Updates

-- a design and the freed one, and an order of their drivers
pub record TwoDesigns : Type 0 where
  pub design : Design
  pub freed : Design
  pub order : List ℕ

-- such designs, what a cycle of either begins with, and what it has
pub record TwoCycles : Type 0 where
  pub of : TwoDesigns
  pub samples : List Bits
  pub state : Valuation
  pub choice : Choice
  pub values : Valuation
  pub next : Valuation

-- such designs, some traces, suspects, a largest size, a set and a list of sets
pub record TwoLists : Type 0 where
  pub of : TwoDesigns
  pub traces : List Trace
  pub groups : Groups
  pub size : ℕ
  pub set : List ℕ
  pub sets : List (List ℕ)
