use Rattle.std.proofs.Common.{◌∙◌, get_or}
use Rattle.form_values.proofs.ColumnSteps.{width-more}
use Rattle.form_values.proofs.columns.widths_in.Goals as goal

pub loop-i-preserved : goal.loop-i-preserved
loop-i-preserved c p =
    c.in_ok-widen.ensures p
    ∙ width-more c.args.bits.now c.loop-i.i p (get_or c.loop-i.widths p 0) _ c.loop-i-test.true (c.loop-i.invariant p)
