use Rattle.sat_core.proofs.SearchLemmas.{IsUnderWay-propagates}
use Rattle.sat_core.proofs.engine.Engine.advance.Goals as goal

pub meet-requires-clause-under_way : goal.meet-requires-clause-under_way
meet-requires-clause-under_way c = IsUnderWay-propagates c.args.self.now c.propagate.new.self c.args.log.now c.args.assume.now c.requires.under_way c.propagate.ensures.appends c.propagate.ensures.trail

pub extend-requires-clause-under_way : goal.extend-requires-clause-under_way
extend-requires-clause-under_way c = IsUnderWay-propagates c.args.self.now c.propagate.new.self c.args.log.now c.args.assume.now c.requires.under_way c.propagate.ensures.appends c.propagate.ensures.trail
