use Rattle.std.proofs.Common.{not, count_by}
use Rattle.design_order.specs.Running.{IsWalk}
use Rattle.design_order.proofs.circle.circle_from.Given as goal

abbrev pub invariant-walk : goal.invariant-walk
invariant-walk l = IsWalk l.needs l.taken l.met.items l.path.items l.number

abbrev pub decreases-walk : goal.decreases-walk
decreases-walk l = count_by not l.met.items
