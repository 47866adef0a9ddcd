use Rattle.std.proofs.Common.{◌+◌, ◌≤◌, arith}
use Rattle.card_counter.specs.Places.{starts, width}
use Rattle.card_counter.proofs.Counting.{starts-few, starts-next, starts-within}
use Rattle.card_counter.proofs.place.start_of.Goals as goal

pub overflow_add-start : goal.overflow_add-start
overflow_add-start c =
    let last : starts c.args.k c.loop-before.before + width c.args.k c.loop-before.before ≤ starts c.args.k c.args.selectors =
    starts-within c.args.k c.loop-before.before c.args.selectors c.loop-before-test.true in
    omega (arith, last, c.loop-before.invariant, c.requires, c.width_of-start.ensures, starts-few c.args.k c.args.selectors 4294967295 (omega (arith, c.requires)))

pub loop-before-preserved : goal.loop-before-preserved
loop-before-preserved c = omega (arith, starts-next c.args.k c.loop-before.before, c.loop-before.invariant, c.width_of-start.ensures)
