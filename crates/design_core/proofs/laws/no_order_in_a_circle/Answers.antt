use Rattle.std.specs.Prelude.{length}
use Rattle.design_core.specs.Reads.{Depends}
use Rattle.design_core.proofs.OrderLaws.{circle-no_least}
use Rattle.design_core.proofs.laws.no_order_in_a_circle.Goals as goal

pub returns : goal.returns
returns g c = circle-no_least (Depends g.of.design) (length g.of.design.drivers.items) g.of.one c.requires
