use Rattle.std.proofs.Common.{ℕ, ◌<◌}
use Rattle.design_core.specs.Words.{valuation_of, choice_of}
use Rattle.plain_sim.specs.EvaluateCycle.{DriverHolds}
use Rattle.plain_sim.proofs.cycle.holds.drivers_hold.Given as goal

abbrev pub invariant-loop-i : goal.invariant-loop-i
invariant-loop-i l = (i : ℕ) → i < l.i → DriverHolds l.design (choice_of l.freed l.chosen) (valuation_of l.now) i
