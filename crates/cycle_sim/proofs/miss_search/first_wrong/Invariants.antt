use Rattle.plain_sim.proofs.EvaluateOutputs.{AreRightBefore}
use Rattle.cycle_sim.proofs.miss_search.first_wrong.Given as goal

abbrev pub invariant-loop-i : goal.invariant-loop-i
invariant-loop-i l = AreRightBefore l.design l.expected l.words l.i
