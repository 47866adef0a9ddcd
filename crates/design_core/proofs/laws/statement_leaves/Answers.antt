use Rattle.design_core.proofs.StoreOutside.{after-leaves}
use Rattle.design_core.proofs.laws.statement_leaves.Goals as goal

pub returns : goal.returns
returns g c =
    let left = after-leaves g.of.signals g.of.places g.of.choice g.of.statement g.of.updates g.of.signal g.of.position c.requires.0 c.requires.1 in
    record { now = left.now; later = left.later }
