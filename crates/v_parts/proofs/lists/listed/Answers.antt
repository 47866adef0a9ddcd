use Rattle.std.proofs.Common.{arith, rules}
use Rattle.std.proofs.lemmas.Result.{err_from_is_err_and}
use Rattle.v_parts.proofs.ListSteps.{listing_ends, listing_done, listing_turn, listing_fails}
use Rattle.v_parts.proofs.lists.listed.Goals as goal

pub returns-then-not-stands-clause-gives : goal.returns-then-not-stands-clause-gives
returns-then-not-stands-clause-gives g c = listing_ends c.loop.invariant (grind arith)

pub returns-in_err-part-clause-gives : goal.returns-in_err-part-clause-gives
returns-in_err-part-clause-gives g c =
    let p = err_from_is_err_and c.from_residual-in_err-part.result c.from_residual-in_err-part.ensures.1 in
    rw (p.1, p.2) (listing_fails c.loop.invariant (omega (arith, c.loop-test.true)) (grind arith) c.in_err-part.field-0.0 c.in_err-part.ensures.gives)

pub loop-preserved : goal.loop-preserved
loop-preserved g c =
    listing_turn c.loop.invariant (omega (arith, c.loop-test.true)) (grind arith) c.in_ok-part.ensures.gives c.in_ok-part.ensures.inside (search rules) (omega arith)

pub returns-clause-gives : goal.returns-clause-gives
returns-clause-gives g c = listing_done c.loop.invariant (omega (arith, c.loop-test.false))
