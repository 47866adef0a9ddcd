use Rattle.cycle_sim.proofs.Planning.{RowsSoFar}
use Rattle.cycle_sim.proofs.plan.drivers_masks.Given as goal

abbrev pub invariant-loop-i : goal.invariant-loop-i
invariant-loop-i l = RowsSoFar l.design l.rows l.i
