use Rattle.list_verdict.specs.Claims.{claim_of}
use Rattle.list_verdict.specs.Faults.{AreFound}
use Rattle.list_verdict.proofs.order.ordered.Given as goal

abbrev pub invariant-loop-place : goal.invariant-loop-place
invariant-loop-place l = AreFound (claim_of l.listed) l.place l.found.items
