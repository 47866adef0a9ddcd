use Rattle.std.proofs.Common.{arith}
use Rattle.assign_rules.proofs.HomeLaws.{above-more, above-all}
use Rattle.assign_rules.proofs.homes.above.Goals as goal

pub loop-home-preserved : goal.loop-home-preserved
loop-home-preserved c = (
  above-more c.args.list.now c.loop-home.home-index c.loop-home.count c.past-count.result c.loop-home-test.true c.loop-home.invariant.0 c.past-count.ensures.kept c.past-count.ensures.more,
  omega (arith, c.loop-home.invariant.1, c.past-count.ensures.kept),
)

pub returns-clause-all : goal.returns-clause-all
returns-clause-all c = above-all c.args.list.now c.loop-home.home-index c.loop-home.count c.loop-home-test.false c.loop-home.invariant.0
