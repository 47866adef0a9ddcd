use Rattle.std.proofs.Common.{rules, arith, [], get_or}
use Rattle.report_sets.specs.Reading.{AppendsRow, HasWords}
use Rattle.report_sets.proofs.Pushing.{read-true, rows-more}
use Rattle.report_sets.proofs.rows.push_rows.Goals as goal

pub loop-cycle-preserved : goal.loop-cycle-preserved
loop-cycle-preserved c =
    rows-more c.args.widths.now c.args.texts.now c.loop-cycle.cycle c.args.words.now.items c.loop-cycle.words.items c.push_row.new.words.items
    (omega arith) c.loop-cycle.invariant
    (read-true c.in_ok-push_row.field-0
    (AppendsRow c.args.widths.now (get_or c.args.texts.now c.loop-cycle.cycle []) c.loop-cycle.words.items c.push_row.new.words.items)
    (¬ HasWords c.args.widths.now (get_or c.args.texts.now c.loop-cycle.cycle [])) (search rules) c.in_ok-push_row.ensures)
