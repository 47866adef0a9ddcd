use Rattle.cycle_sim.specs.Planned.{ListedSoFar}
use Rattle.cycle_sim.proofs.plan.masks_of.Given as goal

abbrev pub invariant-loop-signal : goal.invariant-loop-signal
invariant-loop-signal l = ListedSoFar l.words l.masks.items l.signal
