use Rattle.plain_sim.proofs.EvaluateOutputs.{AreRightBefore}
use Rattle.plain_sim.proofs.cycle.outputs.are_right.Given as goal

abbrev pub invariant-loop-i : goal.invariant-loop-i
invariant-loop-i l = AreRightBefore l.d l.expected l.words l.i
