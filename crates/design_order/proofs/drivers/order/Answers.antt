use Rattle.std.proofs.Common.{sym, subst, length, ◌<◌, ◌^◌}
use Rattle.design_order.specs.DriverOrder.{IsTheOrder}
use Rattle.design_order.proofs.NeedLaws.{needs-are-within, the-order, refusal-of}
use Rattle.design_order.proofs.drivers.order.Goals as goal

pub least_order-requires-clause-within : goal.least_order-requires-clause-within
least_order-requires-clause-within c = needs-are-within c.args.design.now c.in_ok-needs.needs c.in_ok-needs.ensures

pub returns-in-Ok-clause-ordered : goal.returns-in-Ok-clause-ordered
returns-in-Ok-clause-ordered c =
    subst (IsTheOrder c.args.design.now) (sym c.from_vec.ensures)
    (the-order c.args.design.now c.in_ok-needs.needs c.in-Ok.order.items c.in_ok-needs.ensures c.in-Ok.ensures.ordered)

pub returns-clause-refused : goal.returns-clause-refused
returns-clause-refused c = refusal-of c.args.design.now c.in_ok-needs.needs c.in-Err.error c.in_ok-needs.ensures c.in-Err.ensures.refused
