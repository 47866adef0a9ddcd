use Rattle.std.proofs.Common.{take}
use Rattle.report_sets.specs.Reading.{AppendsRows, all_rows}
use Rattle.report_sets.proofs.rows.push_all.Given as goal

abbrev pub invariant-loop-texts : goal.invariant-loop-texts
invariant-loop-texts l = AppendsRows l.widths (all_rows (take l.texts-index l.values)) l.initial.words.items l.words.items
