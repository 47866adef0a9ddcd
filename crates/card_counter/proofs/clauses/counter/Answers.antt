use Rattle.std.proofs.Common.{◌≡◌, ◌+◌, ◌≤◌, sym, subst, arith, length, List}
use Rattle.clause_base.specs.declared.literal.Lit.{Lit}
use Rattle.card_counter.specs.Places.{starts, width}
use Rattle.card_counter.specs.Counter.{counter_clauses}
use Rattle.card_counter.specs.Means.{IsCounter}
use Rattle.card_counter.proofs.Counting.{is-counter, starts-within}
use Rattle.card_counter.proofs.Steps.{rows-end}
use Rattle.card_counter.proofs.clauses.counter.Goals as goal

pub push_row-requires-clause-variables_fit : goal.push_row-requires-clause-variables_fit
push_row-requires-clause-variables_fit c =
    let next = c.loop-counted.counted + 1 in
    let last : starts c.args.k next + width c.args.k next ≤ starts c.args.k (length c.args.selectors.now + 1) =
    starts-within c.args.k next (length c.args.selectors.now + 1) (omega (arith, c.loop-counted-test.true)) in
    omega (arith, last, c.loop-counted.invariant.here_is, c.requires.variables_fit)

pub overflow_add-here : goal.overflow_add-here
overflow_add-here c =
    let next = c.loop-counted.counted + 1 in
    let last : starts c.args.k next + width c.args.k next ≤ starts c.args.k (length c.args.selectors.now + 1) =
    starts-within c.args.k next (length c.args.selectors.now + 1) (omega (arith, c.loop-counted-test.true)) in
    omega (arith, last, c.loop-counted.invariant.here_is, c.requires.variables_fit, c.width_of-here.ensures)

pub returns-clause-clauses : goal.returns-clause-clauses
returns-clause-clauses c =
    rows-end c.args.first c.args.k c.args.selectors.now c.loop-counted.counted c.loop-counted.clauses (counter_clauses c.args.selectors.now c.args.k c.args.first)
    c.loop-counted-test.false c.loop-counted.invariant.clauses_are

pub returns-clause-counts : goal.returns-clause-counts
returns-clause-counts c =
    subst (IsCounter c.args.first c.args.k c.args.selectors.now) (sym (returns-clause-clauses c)) (is-counter c.args.first c.args.k c.args.selectors.now c.requires.before)
