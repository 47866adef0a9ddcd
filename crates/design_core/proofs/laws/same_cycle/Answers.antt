use Rattle.design_core.proofs.CycleLaws.{cycle-unique}
use Rattle.design_core.proofs.laws.same_cycle.Goals as goal

pub returns : goal.returns
returns g c =
    let same = cycle-unique g.of.design g.of.order c.requires.0 c.requires.1.0 g.of.samples g.of.state g.of.choice
    g.of.one g.of.one_next g.of.other g.of.other_next c.requires.1.1.0 c.requires.1.1.1 in
    record { values = same.0; next = same.1 }
