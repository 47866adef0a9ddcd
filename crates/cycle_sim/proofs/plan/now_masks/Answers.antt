use Rattle.std.proofs.Common.{not}
use Rattle.design_core.specs.Drives.{block_assigns_later}
use Rattle.cycle_sim.proofs.Planning.{narrowed-next}
use Rattle.cycle_sim.proofs.plan.now_masks.Goals as goal

pub loop-k-preserved : goal.loop-k-preserved
loop-k-preserved c =
    record {
      widths = λ widths fits. c.in_ok-keep_mask.ensures.widths widths
          (fits.each c.loop-k.k c.mask_at.result c.mask_at.ensures) (c.loop-k.invariant.widths widths fits);
      bits = narrowed-next (λ s b. not (block_assigns_later s c.args.block.now)) c.args.masks.now c.loop-k.now.items
          c.keep_mask.new.now.items c.loop-k.k c.mask_at.result c.mask_at.ensures
          c.loop-k.invariant.bits c.in_ok-keep_mask.ensures.same;
    }
