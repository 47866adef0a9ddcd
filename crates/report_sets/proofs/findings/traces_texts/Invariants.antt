use Rattle.std.proofs.Common.{◌≡◌, ◌++◌, drop}
use Rattle.design_core.specs.Explained.{cycles_before}
use Rattle.report_sets.specs.Found.{traces_texts}
use Rattle.report_sets.proofs.findings.traces_texts.Given as goal

abbrev pub invariant-loop-trace : goal.invariant-loop-trace
invariant-loop-trace l = record {
  first : l.first ≡ cycles_before l.traces l.trace-index;
  texts : traces_texts l.values 0 l.traces ≡ l.texts ++ traces_texts l.values l.first (drop l.trace-index l.traces);
}
