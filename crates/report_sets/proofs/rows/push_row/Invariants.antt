use Rattle.std.proofs.Common.{[], get_or, take}
use Rattle.report_sets.specs.Reading.{AppendsRow}
use Rattle.report_sets.proofs.rows.push_row.Given as goal

abbrev pub invariant-loop-place : goal.invariant-loop-place
invariant-loop-place l = AppendsRow (take l.place l.widths) (take l.place (get_or l.texts l.cycle [])) l.initial.words.items l.words.items
