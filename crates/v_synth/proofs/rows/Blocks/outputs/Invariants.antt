use Rattle.std.proofs.Common.{◌≡◌, get_or, map, take}
use Rattle.v_synth.proofs.rows.Blocks.outputs.Given as goal

abbrev pub invariant-loop-k : goal.invariant-loop-k
invariant-loop-k l = l.outputs ≡ map (λ s. get_or l.values s 0) (take l.k l.self.design.now.outputs.items)
