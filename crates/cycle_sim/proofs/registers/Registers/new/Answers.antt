use Rattle.cycle_sim.proofs.WholeRegisters.{split-next}
use Rattle.cycle_sim.proofs.registers.Registers.new.Goals as goal

pub loop-k-preserved : goal.loop-k-preserved
loop-k-preserved c widths fits =
    split-next widths c.args.masks.items c.loop-k.k c.mask_at.result c.loop-k.whole.items c.split_mask.new.whole.items
    c.loop-k.parts.items c.split_mask.new.parts.items
    (rw c.deref.ensures.value at c.mask_at.ensures) c.in_ok-split_mask.ensures fits (c.loop-k.invariant widths fits)
