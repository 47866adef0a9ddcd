use Rattle.design_core.proofs.StoreOutside.{store-outside}
use Rattle.design_core.proofs.laws.store_outside.Goals as goal

pub returns : goal.returns
returns g c = store-outside g.of.signals g.of.reads g.of.writes g.of.parts g.of.bits g.of.signal g.of.position c.requires.0 c.requires.1
