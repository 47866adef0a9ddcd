use Rattle.design_core.specs.Works.{Works}
use Rattle.design_core.proofs.ListingLaws.{list-is_front}
use Rattle.design_core.proofs.laws.list_is_front.Goals as goal

pub returns : goal.returns
returns g c = list-is_front (Works g.of.design g.of.traces g.of.groups) g.of.groups g.of.size g.of.one c.requires
