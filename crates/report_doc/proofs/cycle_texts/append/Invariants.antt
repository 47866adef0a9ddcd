use Rattle.std.proofs.Common.{◌≡◌, ◌++◌, take}
use Rattle.report_doc.proofs.cycle_texts.append.Given as goal

abbrev pub invariant-loop-number : goal.invariant-loop-number
invariant-loop-number l = l.texts ≡ l.initial.texts ++ take l.number l.rows
