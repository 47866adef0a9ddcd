use Rattle.design_core.specs.Drives.{part_drives}
use Rattle.design_core.specs.WellFormed.{part_fits}
use Rattle.plain_values.proofs.EvaluateWords.{slice_get_at}
use Rattle.cycle_sim.proofs.Collecting.{adds-next, passes-at}
use Rattle.cycle_sim.proofs.collect.add_parts.Goals as goal

pub loop-k-preserved : goal.loop-k-preserved
loop-k-preserved c fits =
    let signals = c.args.signals.now in
    let at = slice_get_at c.args.parts.now c.loop-k.k c.index-parts-k.result c.loop-k-test.true c.index-parts-k.is in
    adds-next signals c.args.row.now.items c.loop-k.row.items c.add_part.new.row.items (λ s b. part_drives signals s b)
    c.args.parts.now c.loop-k.k c.index-parts-k.result at
    (c.loop-k.invariant fits) (c.in_ok-add_part.ensures
    (passes-at (part_fits signals) c.args.parts.now c.loop-k.k c.index-parts-k.result fits at))
