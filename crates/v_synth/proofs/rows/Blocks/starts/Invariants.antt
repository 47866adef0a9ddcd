use Rattle.v_synth.proofs.NetSteps.{StartSoFar}
use Rattle.v_synth.proofs.rows.Blocks.starts.Given as goal

abbrev pub invariant-loop-k : goal.invariant-loop-k
invariant-loop-k l = StartSoFar l.self.design.now l.states l.start l.k
