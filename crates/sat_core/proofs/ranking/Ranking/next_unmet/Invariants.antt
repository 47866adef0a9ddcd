use Rattle.std.specs.Prelude.{⊤}
use Rattle.sat_core.proofs.ranking.Ranking.next_unmet.Given as goal

abbrev pub invariant-loop-self : goal.invariant-loop-self
invariant-loop-self l = ⊤

abbrev pub decreases-loop-self : goal.decreases-loop-self
decreases-loop-self l = l.self.unmet
