use Rattle.design_core.specs.Constant.{zeros}
use Rattle.plain_sim.proofs.EvaluateSweep.{Swept}
use Rattle.plain_sim.proofs.cycle.copies.clear.Given as goal

abbrev pub invariant-loop-i : goal.invariant-loop-i
invariant-loop-i l = Swept zeros l.initial.words l.words l.i
