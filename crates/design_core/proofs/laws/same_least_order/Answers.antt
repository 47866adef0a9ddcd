use Rattle.std.specs.Prelude.{length}
use Rattle.design_core.specs.Reads.{Depends}
use Rattle.design_core.proofs.OrderLaws.{least-unique}
use Rattle.design_core.proofs.laws.same_least_order.Goals as goal

pub returns : goal.returns
returns g c = least-unique (Depends g.of.design) (length g.of.design.drivers.items) g.of.one g.of.other c.requires.0 c.requires.1
