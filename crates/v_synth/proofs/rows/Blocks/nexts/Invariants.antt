use Rattle.std.proofs.Common.{◌≡◌, [], drop}
use Rattle.v_synth.specs.Net.{nexts_made}
use Rattle.v_synth.proofs.rows.Blocks.nexts.Given as goal

abbrev pub invariant-loop-k : goal.invariant-loop-k
invariant-loop-k l = nexts_made l.self.design.now l.left l.fn.nodes [] l.states ≡ nexts_made l.self.design.now l.left l.nodes l.next (drop l.k l.states)
