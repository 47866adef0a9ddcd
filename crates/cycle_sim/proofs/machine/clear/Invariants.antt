use Rattle.design_core.specs.Constant.{zeros}
use Rattle.plain_sim.proofs.EvaluateSweep.{Swept}
use Rattle.cycle_sim.proofs.machine.clear.Given as goal

abbrev pub invariant-loop-k : goal.invariant-loop-k
invariant-loop-k l = Swept zeros l.initial.words l.words l.k
