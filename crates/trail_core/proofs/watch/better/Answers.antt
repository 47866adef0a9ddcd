use Rattle.std.proofs.Common.{subst, arith}
use Rattle.trail_core.specs.Visits.{HighestGives}
use Rattle.trail_core.proofs.Choosing.{better_apart, better_first, better_taken, better_kept}
use Rattle.trail_core.proofs.watch.better.Goals as goal

pub returns-then-l-apart-clause-more : goal.returns-then-l-apart-clause-more
returns-then-l-apart-clause-more c = λ part h. better_apart c.args.trail.now.entries part c.args.apart c.args.l c.args.found (omega (arith, c.if-l-apart.true)) h

pub returns-in-None-clause-more : goal.returns-in-None-clause-more
returns-in-None-clause-more c = λ part h. better_first c.args.trail.now.entries part c.args.apart c.args.l (λ e. absurd (omega (arith, e, c.if-l-apart.false))) (subst (HighestGives c.args.trail.now.entries part c.args.apart) c.in-None.is h)

pub returns-then-rank-clause-more : goal.returns-then-rank-clause-more
returns-then-rank-clause-more c = λ part h. better_taken c.args.trail.now.entries part c.args.apart c.in-Some.m c.args.l (omega (arith, c.rank.ensures, c.rank-in-Some.ensures, c.if-rank.true)) (λ e. absurd (omega (arith, e, c.if-l-apart.false))) (subst (HighestGives c.args.trail.now.entries part c.args.apart) c.in-Some.is h)

pub returns-else-rank-clause-more : goal.returns-else-rank-clause-more
returns-else-rank-clause-more c = λ part h. better_kept c.args.trail.now.entries part c.args.apart c.in-Some.m c.args.l (omega (arith, c.rank.ensures, c.rank-in-Some.ensures, c.if-rank.false)) (subst (HighestGives c.args.trail.now.entries part c.args.apart) c.in-Some.is h)
