use Rattle.std.proofs.Common.{◌≡◌}
use Rattle.report_sets.specs.Found.{rows_texts}
use Rattle.report_sets.proofs.findings.rows_texts.Given as goal

abbrev pub invariant-loop-cycle : goal.invariant-loop-cycle
invariant-loop-cycle l = l.texts ≡ rows_texts l.values l.first l.cycle
