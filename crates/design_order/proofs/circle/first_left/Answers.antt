use Rattle.design_order.proofs.Counting.{has-index}
use Rattle.design_order.proofs.circle.first_left.Goals as goal

pub bounds-taken-number : goal.bounds-taken-number
bounds-taken-number c = c.requires.within _ (has-index c.args.row.now c.loop-number.number-index c.loop-number-test.true)
