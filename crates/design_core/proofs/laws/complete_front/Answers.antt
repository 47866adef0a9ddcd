use Rattle.design_core.specs.Works.{Works}
use Rattle.design_core.proofs.ListingLaws.{front-list, lists-same}
use Rattle.design_core.proofs.laws.complete_front.Goals as goal

pub returns : goal.returns
returns g c =
    let whole = front-list (Works g.of.design g.of.traces g.of.groups) g.of.groups g.of.size g.of.one c.requires.0 c.requires.1.0 in
    record { whole = whole; same = lists-same (Works g.of.design g.of.traces g.of.groups) g.of.groups g.of.size g.of.one g.of.other whole c.requires.1.1 }
