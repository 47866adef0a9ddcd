use Rattle.v_synth.proofs.FirstSteps.{BegunSoFar}
use Rattle.v_synth.proofs.rows.Blocks.begin.Given as goal

abbrev pub invariant-loop-s : goal.invariant-loop-s
invariant-loop-s l = BegunSoFar l.self.design.now l.nodes l.first.map l.first.states l.s
