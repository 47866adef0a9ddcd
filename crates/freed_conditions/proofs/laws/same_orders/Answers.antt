use Rattle.freed_conditions.proofs.OrderFreed.{same-order, same-least}
use Rattle.freed_conditions.proofs.laws.same_orders.Goals as goal

pub returns : goal.returns
returns g c = record {
  order = same-order g.two.design g.two.freed c.requires.0 c.requires.1 g.two.order;
  least = same-least g.two.design g.two.freed c.requires.0 c.requires.1 g.two.order;
}
