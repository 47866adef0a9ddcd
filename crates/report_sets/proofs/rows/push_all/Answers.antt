use Rattle.std.proofs.Common.{rules, arith}
use Rattle.std.specs.Prelude.{All}
use Rattle.report_sets.specs.Reading.{AppendsRows, HasWords}
use Rattle.report_sets.proofs.Pushing.{all-none, read-false}
use Rattle.report_sets.proofs.rows.push_all.Goals as goal

pub returns-then-not-branch : goal.returns-then-not-branch
returns-then-not-branch c =
    all-none c.args.widths.now c.args.values.now c.loop-texts.texts-index c.texts-item.result (omega arith) c.texts-item.is
    (read-false c.in_ok-push_rows.field-0
    (AppendsRows c.args.widths.now c.texts-item.result c.loop-texts.words.items c.push_rows.new.words.items)
    (¬ All (HasWords c.args.widths.now) c.texts-item.result) (search rules) c.in_ok-push_rows.ensures)
