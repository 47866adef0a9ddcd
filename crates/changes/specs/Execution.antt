-- How a cycle executes the assignment of a place (IEEE 1364-2005, 6.1 and 9.2): its right side, and the values that this reads there. These
-- are the cycle's values, but for what the place's own block has assigned by `=` before.
use Rattle.std.specs.Prelude.{ℕ, ◌%◌, ◌^◌, ◌==◌, if◌then◌else◌, List, [], ◌∷◌, Option, Some, None, option_and_then}
use Rattle.std.specs.List.{list_any}
use Rattle.std.specs.Option.{option_or}
use Rattle.design_core.specs.declared.signal.Signal.{Signal}
use Rattle.design_core.specs.declared.expression.Typed.{Typed}
use Rattle.design_core.specs.declared.statement.Stmt.{Stmt, Row_of-Stmt, end_of-Stmt, more_of-Stmt, Row_of-CaseItem, end_of-CaseItem, more_of-CaseItem}
use Rattle.design_core.specs.declared.statement.Stmt.TheVariants.{Nothing, Block', If', Case', Set}
use Rattle.design_core.specs.declared.driver.Driver.{Driver}
use Rattle.design_core.specs.declared.driver.Driver.TheVariants.{Cont, Comb}
use Rattle.design_core.specs.declared.driver.Clocked.{Clocked}
use Rattle.design_core.specs.declared.design.Design.{Design}
use Rattle.design_core.specs.Explained.{place_width}
use Rattle.design_core.specs.Valuation.{Valuation}
use Rattle.design_core.specs.Operator.{is_true}
use Rattle.design_core.specs.Value.{value}
use Rattle.design_core.specs.After.{Choice, Updates, matches, after}
use Rattle.design_core.specs.Cycle.{is_active}
use Rattle.changes.specs.Reached.{begun}

-- the right side, and the values that it reads
pub record Execution : Type 0 where
  pub side : Typed
  pub now : Valuation

-- the one assignment at a place, where it is that of another
abbrev pub executed_set : ℕ → ℕ → Typed → Valuation → Option Execution
executed_set place p side now = if place == p then Some (record { side = side; now = now }) else None

abbrev mutual
  -- where a statement is begun in m; other places take what is chosen for them
  pub executed_in : List Signal → Choice → ℕ → Stmt → Updates → Option Execution
  executed_in signals choice p Nothing m = None
  executed_in signals choice p (Block' _ statements) m = executed_all signals choice p statements m
  executed_in signals choice p (If' cond _ (more_of-Stmt on_true end_of-Stmt) _ (more_of-Stmt on_false end_of-Stmt)) m =
      if is_true (value signals m.now cond) then executed_in signals choice p on_true m else executed_in signals choice p on_false m
  executed_in signals choice p (Case' subject _ items _ (more_of-Stmt other end_of-Stmt) _) m =
      executed_case signals choice p (value signals m.now subject) items m (executed_in signals choice p other m)
  executed_in signals choice p (Set place target side _) m = executed_set place p side m.now

  -- in the first of some statements in order that executes it
  pub executed_all : {shape : _} → List Signal → Choice → ℕ → Row_of-Stmt shape → Updates → Option Execution
  executed_all signals choice p end_of-Stmt m = None
  executed_all signals choice p (more_of-Stmt statement rest) m =
      option_or (executed_in signals choice p statement m) (executed_all signals choice p rest (after signals choice statement m))

  -- in the first item that has a label equal to the subject, else as given
  pub executed_case : {shape : _} → List Signal → Choice → ℕ → ℕ → Row_of-CaseItem shape → Updates → Option Execution → Option Execution
  executed_case signals choice p subject end_of-CaseItem m other = other
  executed_case signals choice p subject (more_of-CaseItem labels body rest) m other =
      if list_any (matches signals m.now subject) labels
      then executed_in signals choice p body m
      else executed_case signals choice p subject rest m other

-- in a continuous assignment, which may have a place
abbrev pub executed_cont : Option ℕ → ℕ → Typed → Valuation → Option Execution
executed_cont None p side V = None
executed_cont (Some place) p side V = executed_set place p side V

-- in a driver, in a cycle whose values are V
abbrev pub executed_driver : List Signal → Choice → Valuation → ℕ → Driver → Option Execution
executed_driver signals choice V p (Cont target side place span) = executed_cont place p side V
executed_driver signals choice V p (Comb body span) = executed_in signals choice p body (begun V)

-- in a clocked block: in the reset's values where the reset is active, else in the body
abbrev pub executed_clocked : List Signal → Choice → Valuation → ℕ → Clocked → Option Execution
executed_clocked signals choice V p block =
    if is_active V block
    then option_and_then (λ r. executed_in signals choice p r.values (begun V)) block.reset
    else executed_in signals choice p block.body (begun V)

-- the first execution that elements give
abbrev pub first_executed : {X : Type 0} → (X → Option Execution) → List X → Option Execution
first_executed executes [] = None
first_executed executes (x ∷ xs) = option_or (executes x) (first_executed executes xs)

-- how a cycle whose values are V executes the assignment of a place, where it does
abbrev pub executed : Design → Choice → Valuation → ℕ → Option Execution
executed d choice V p =
    option_or (first_executed (executed_driver d.signals.items choice V p) d.drivers.items)
    (first_executed (executed_clocked d.signals.items choice V p) d.clocked.items)

-- what is computed there, cut to the width of the place
abbrev pub computes_at : Design → ℕ → Execution → ℕ
computes_at d p e = value d.signals.items e.now e.side % 2 ^ place_width d p
