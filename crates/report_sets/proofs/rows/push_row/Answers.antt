use Rattle.std.proofs.Common.{[], ◌∙◌, arith, get_or, sym}
use Rattle.report_sets.proofs.Pushing.{row-none}
use Rattle.report_sets.proofs.rows.push_row.Goals as goal

pub returns-in-None : goal.returns-in-None
returns-in-None c =
    row-none c.args.widths.now (get_or c.args.texts.now c.args.cycle []) c.loop-place.place (omega arith)
    (λ word wide text. c.in-None.ensures.none word wide (text ∙ sym c.text.ensures))
