use Rattle.design_bits.specs.Rows.{label_reads}
use Rattle.design_bits.proofs.ReadsAdded.{each-more}
use Rattle.design_bits.proofs.mentions.add_labels_reads.Goals as goal

pub loop-label-preserved : goal.loop-label-preserved
loop-label-preserved c =
    each-more _ _ _ _ (λ y s k. label_reads c.args.signals.now s k y) c.args.labels.now c.loop-label.label-index c.label-item.result c.loop-label-test.true c.label-item.is
    c.loop-label.invariant c.in_ok-add_reads.ensures
