use Rattle.std.proofs.Common.{take}
use Rattle.report_sets.specs.Reading.{AppendsRows}
use Rattle.report_sets.proofs.rows.push_rows.Given as goal

abbrev pub invariant-loop-cycle : goal.invariant-loop-cycle
invariant-loop-cycle l = AppendsRows l.widths (take l.cycle l.texts) l.initial.words.items l.words.items
