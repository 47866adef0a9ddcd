use Rattle.std.proofs.Common.{◌∙◌, sym}
use Rattle.cycle_sim.proofs.Planning.{kept-mask}
use Rattle.cycle_sim.proofs.plan.keep_mask.Goals as goal

pub returns : goal.returns
returns c = rw c.in_ok-push.ensures.items (kept-mask c.args.block.now c.args.now.now.items c.args.mask
    (sym c.block_assigns_later.ensures ∙ c.if-block_assigns_later.false))
