use Rattle.plain_sim.proofs.EvaluateSweep.{Swept}
use Rattle.cycle_sim.specs.Holding.{starts}
use Rattle.cycle_sim.proofs.machine.restart.Given as goal

abbrev pub invariant-loop-k : goal.invariant-loop-k
invariant-loop-k l = Swept (starts l.signals) l.initial.words l.words l.k
