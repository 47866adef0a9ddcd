use Rattle.std.proofs.Common.{length}
use Rattle.std.specs.Prelude.{⊤}
use Rattle.sat_core.proofs.ranking.Ranking.next_met.Given as goal

abbrev pub invariant-loop-var : goal.invariant-loop-var
invariant-loop-var l = ⊤

abbrev pub decreases-loop-var : goal.decreases-loop-var
decreases-loop-var l = length l.self.heap.heap.items
