use Rattle.std.proofs.Common.{arith, rules}
use Rattle.std.proofs.lemmas.Result.{err_from_is_err_and}
use Rattle.v_parts.proofs.ListSteps.{listing_ends, listing_done, listing_turn, listing_fails}
use Rattle.v_parts.proofs.left_sides.+left.Goals as goal

pub lefts-returns-then-not-stands-clause-gives : goal.lefts-returns-then-not-stands-clause-gives
lefts-returns-then-not-stands-clause-gives t c = listing_ends c.loop.invariant (grind arith)

pub lefts-returns-in_err-part-clause-gives : goal.lefts-returns-in_err-part-clause-gives
lefts-returns-in_err-part-clause-gives t c =
    let p = err_from_is_err_and c.from_residual-in_err-part.result c.from_residual-in_err-part.ensures.1 in
    rw (p.1, p.2) (listing_fails c.loop.invariant (omega (arith, c.loop-test.true)) (grind arith) c.in_err-part.field-0.0 c.in_err-part.ensures.gives)

pub lefts-loop-preserved : goal.lefts-loop-preserved
lefts-loop-preserved t c =
    listing_turn c.loop.invariant (omega (arith, c.loop-test.true)) (grind arith) c.in_ok-part.ensures.gives c.in_ok-part.ensures.inside (search rules) (omega arith)

pub lefts-returns-clause-gives : goal.lefts-returns-clause-gives
lefts-returns-clause-gives t c = listing_done c.loop.invariant (omega (arith, c.loop-test.false))
