use Rattle.design_core.proofs.OrderLaws.{least-is_order}
use Rattle.design_core.proofs.laws.least_order_is_order.Goals as goal

pub returns : goal.returns
returns g c = least-is_order g.of.design g.of.one c.requires
