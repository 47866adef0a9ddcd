-- The rules together, but for that of the clock, which a design does not name.
use Rattle.std.specs.Prelude.{ℕ, ◌≡◌, false, List}
use Rattle.design_core.specs.declared.design.Design.{Design}
use Rattle.design_rules.specs.Size.{is_too_large}
use Rattle.design_rules.specs.OneDriver.{IsDrivenTwice}
use Rattle.design_rules.specs.DrivenReads.{IsUndriven}
use Rattle.design_rules.specs.Latches.{IsLatch}
use Rattle.design_rules.specs.Assignments.{is_misassigned}
use Rattle.design_rules.specs.Races.{IsRace}

-- a design breaks no rule; `homes` has the home of each of its signals
pub record IsSound (d : Design) (homes : List ℕ) : Type 0 where
  pub size : is_too_large d ≡ false
  pub one_driver : (s : ℕ) → ¬ IsDrivenTwice d s
  pub driven_reads : (s : ℕ) → ¬ IsUndriven d s
  pub no_latch : (i : ℕ) → ¬ IsLatch d i
  pub one_kind : (h : ℕ) → is_misassigned d homes h ≡ false
  pub no_race : (h : ℕ) → ¬ IsRace d homes h
