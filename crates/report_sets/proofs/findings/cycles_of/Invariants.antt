use Rattle.std.proofs.Common.{◌≡◌}
use Rattle.design_core.specs.Explained.{cycles_before}
use Rattle.report_sets.proofs.findings.cycles_of.Given as goal

abbrev pub invariant-loop-trace : goal.invariant-loop-trace
invariant-loop-trace l = l.cycles ≡ cycles_before l.traces l.trace-index
