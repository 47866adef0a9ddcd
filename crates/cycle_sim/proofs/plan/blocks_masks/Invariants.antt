use Rattle.cycle_sim.proofs.Planning.{BlocksSoFar}
use Rattle.cycle_sim.proofs.plan.blocks_masks.Given as goal

abbrev pub invariant-loop-i : goal.invariant-loop-i
invariant-loop-i l = BlocksSoFar l.design l.rows l.i
