-- What a place computes in a cycle (IEEE 1364-2005, 6.1 and clause 9): the right side of its assignment where this is carried out, cut
-- to the width of its left side (6.1, 9.2), whatever the place is made to take there. Where the assignment is not carried out, as in an arm
-- of a condition that is not taken, a place computes nothing.
use Rattle.std.specs.Prelude.{ℕ, ◌%◌, ◌^◌, ◌==◌, if◌then◌else◌, List, [], ◌∷◌, Option, Some, None, option_and_then}
use Rattle.std.specs.List.{list_any}
use Rattle.std.specs.Option.{option_or}
use Rattle.design_core.specs.declared.signal.Signal.{Signal}
use Rattle.design_core.specs.declared.statement.Part.{Part}
use Rattle.design_core.specs.declared.statement.Stmt.{Stmt, Row_of-Stmt, end_of-Stmt, more_of-Stmt, Row_of-CaseItem, end_of-CaseItem, more_of-CaseItem}
use Rattle.design_core.specs.declared.statement.Stmt.TheVariants.{Nothing, Block', If', Case', Set}
use Rattle.design_core.specs.declared.driver.Driver.{Driver}
use Rattle.design_core.specs.declared.driver.Driver.TheVariants.{Cont, Comb}
use Rattle.design_core.specs.declared.driver.Clocked.{Clocked}
use Rattle.design_core.specs.declared.design.Design.{Design}
use Rattle.design_core.specs.Valuation.{Valuation}
use Rattle.design_core.specs.Operator.{is_true}
use Rattle.design_core.specs.Value.{value}
use Rattle.design_core.specs.Store.{parts_width}
use Rattle.design_core.specs.After.{Choice, Updates, matches, after}
use Rattle.design_core.specs.Cycle.{without, is_active}

-- a number cut to the width of a left side
abbrev pub fitted : List Signal → List Part → ℕ → ℕ
fitted signals parts computed = computed % 2 ^ parts_width signals parts

-- what a place computes in the one assignment at another, where it is that one
abbrev pub reached_set : ℕ → ℕ → ℕ → Option ℕ
reached_set place p computed = if place == p then Some computed else None

abbrev mutual
  -- what a place computes where a statement is begun in m; other places take what is chosen for them
  pub reached_in : List Signal → Choice → ℕ → Stmt → Updates → Option ℕ
  reached_in signals choice p Nothing m = None
  reached_in signals choice p (Block' _ statements) m = reached_all signals choice p statements m
  reached_in signals choice p (If' cond _ (more_of-Stmt on_true end_of-Stmt) _ (more_of-Stmt on_false end_of-Stmt)) m =
      if is_true (value signals m.now cond) then reached_in signals choice p on_true m else reached_in signals choice p on_false m
  reached_in signals choice p (Case' subject _ items _ (more_of-Stmt other end_of-Stmt) _) m =
      reached_case signals choice p (value signals m.now subject) items m (reached_in signals choice p other m)
  reached_in signals choice p (Set place target computed _) m = reached_set place p (fitted signals target.parts (value signals m.now computed))

  -- in the first of some statements in order that carries it out
  pub reached_all : {shape : _} → List Signal → Choice → ℕ → Row_of-Stmt shape → Updates → Option ℕ
  reached_all signals choice p end_of-Stmt m = None
  reached_all signals choice p (more_of-Stmt statement rest) m =
      option_or (reached_in signals choice p statement m) (reached_all signals choice p rest (after signals choice statement m))

  -- in the first item that has a label equal to the subject, else as given
  pub reached_case : {shape : _} → List Signal → Choice → ℕ → ℕ → Row_of-CaseItem shape → Updates → Option ℕ → Option ℕ
  reached_case signals choice p subject end_of-CaseItem m other = other
  reached_case signals choice p subject (more_of-CaseItem labels body rest) m other =
      if list_any (matches signals m.now subject) labels
      then reached_in signals choice p body m
      else reached_case signals choice p subject rest m other

-- what is read at once and what is updated later are as in V
abbrev pub begun : Valuation → Updates
begun V = record { now = V; later = V }

-- what a place computes in a driver, in a cycle whose values are V; a combinational block is begun with its own bits at 0
abbrev pub reached_driver : List Signal → Choice → Valuation → ℕ → Driver → Option ℕ
reached_driver signals choice V p (Cont target computed None span) = None
reached_driver signals choice V p (Cont target computed (Some place) span) = reached_set place p (fitted signals target.parts (value signals V computed))
reached_driver signals choice V p (Comb body span) = reached_in signals choice p body (begun (without signals (Comb body span) V))

-- what it computes in a clocked block: in the reset's values, which are constants, where the reset is active, else in the body
abbrev pub reached_clocked : List Signal → Choice → Valuation → ℕ → Clocked → Option ℕ
reached_clocked signals choice V p block =
    if is_active V block
    then option_and_then (λ r. reached_in signals choice p r.values (begun V)) block.reset
    else reached_in signals choice p block.body (begun V)

-- what the first element that gives a number gives
abbrev pub first_reached : {X : Type 0} → (X → Option ℕ) → List X → Option ℕ
first_reached reaches [] = None
first_reached reaches (x ∷ xs) = option_or (reaches x) (first_reached reaches xs)

-- what a place computes in a cycle whose values are V, where it is carried out in it. Each place stands in a design once, so there is one
-- such number at most
abbrev pub reached : Design → Choice → Valuation → ℕ → Option ℕ
reached d choice V p =
    option_or (first_reached (reached_driver d.signals.items choice V p) d.drivers.items)
    (first_reached (reached_clocked d.signals.items choice V p) d.clocked.items)
