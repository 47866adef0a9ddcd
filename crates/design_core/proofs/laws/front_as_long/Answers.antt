use Rattle.design_core.specs.Works.{Works}
use Rattle.design_core.proofs.ListingLaws.{front-whole}
use Rattle.design_core.proofs.laws.front_as_long.Goals as goal

pub returns : goal.returns
returns g c = front-whole (Works g.of.design g.of.traces g.of.groups) g.of.groups g.of.size g.of.one g.of.other c.requires.0 c.requires.1.0 c.requires.1.1
