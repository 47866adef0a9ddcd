use Rattle.std.proofs.Common.{◌∙◌}
use Rattle.form_values.proofs.ColumnSteps.{width-more}
use Rattle.form_values.proofs.fits.width_in.Goals as goal

pub loop-i-preserved : goal.loop-i-preserved
loop-i-preserved c =
    c.wider-width.ensures ∙ width-more c.args.bits.now c.loop-i.i c.args.place c.loop-i.width _ c.loop-i-test.true c.loop-i.invariant
