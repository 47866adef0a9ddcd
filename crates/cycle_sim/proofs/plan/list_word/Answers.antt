use Rattle.cycle_sim.proofs.Planning.{listed-more}
use Rattle.cycle_sim.proofs.plan.list_word.Goals as goal

pub returns : goal.returns
returns c words at before = rw c.in_ok-push.ensures.items (listed-more words c.args.masks.now.items c.args.signal c.args.bits at before)
