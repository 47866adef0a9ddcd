use Rattle.std.proofs.Common.{◌≡◌, ◌-◌}
use Rattle.plain_list.specs.Candidates.{candidates_of}
use Rattle.plain_list.proofs.combinations.candidates.Given as goal

abbrev pub invariant-loop-size : goal.invariant-loop-size
invariant-loop-size l = l.sets.items ≡ candidates_of l.n (l.size - 1)
