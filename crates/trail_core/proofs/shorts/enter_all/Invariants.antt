use Rattle.trail_core.proofs.Entering.{EnteredTo}
use Rattle.trail_core.proofs.shorts.enter_all.Given as goal

abbrev pub invariant-loop-place : goal.invariant-loop-place
invariant-loop-place l = EnteredTo l.fn.shorts l.shorts l.fn.number l.literals l.place
