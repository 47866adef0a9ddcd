use Rattle.design_core.specs.Reads.{part_reads}
use Rattle.design_bits.proofs.ReadsAdded.{each-more}
use Rattle.design_bits.proofs.mentions.add_parts_reads.Goals as goal

pub loop-part-preserved : goal.loop-part-preserved
loop-part-preserved c =
    each-more _ _ _ _ (λ y s k. part_reads c.args.signals.now s k y) c.args.parts.now c.loop-part.part-index c.part-item.result c.loop-part-test.true c.part-item.is
    c.loop-part.invariant c.in_ok-add_part_reads.ensures
