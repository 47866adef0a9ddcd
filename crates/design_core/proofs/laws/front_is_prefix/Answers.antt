use Rattle.design_core.specs.Works.{Works}
use Rattle.design_core.proofs.ListingLaws.{front-prefix}
use Rattle.design_core.proofs.laws.front_is_prefix.Goals as goal

pub returns : goal.returns
returns g c = front-prefix (Works g.of.design g.of.traces g.of.groups) g.of.groups g.of.size g.of.one g.of.other c.requires.0 c.requires.1
