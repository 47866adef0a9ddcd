use Rattle.design_core.specs.Works.{Works}
use Rattle.design_core.proofs.ListingLaws.{lists-same}
use Rattle.design_core.proofs.laws.same_list.Goals as goal

pub returns : goal.returns
returns g c = lists-same (Works g.of.design g.of.traces g.of.groups) g.of.groups g.of.size g.of.one g.of.other c.requires.0 c.requires.1
