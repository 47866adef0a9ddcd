use Rattle.list_verdict.proofs.Held.{NoneBelow}
use Rattle.list_verdict.proofs.holding.first_to_hold.Given as goal

abbrev pub invariant-loop-place : goal.invariant-loop-place
invariant-loop-place l = NoneBelow l.sets l.place
