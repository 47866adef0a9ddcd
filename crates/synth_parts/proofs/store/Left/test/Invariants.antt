use Rattle.std.proofs.Common.{◌≡◌, drop}
use Rattle.std.specs.Prelude.{IsTrue}
use Rattle.std.specs.List.{list_all}
use Rattle.design_core.specs.WellFormed.{label_fits}
use Rattle.synth_parts.specs.Statement.{item_test, labels_made}
use Rattle.synth_parts.proofs.store.Left.test.Given as goal

abbrev pub invariant-loop-i : goal.invariant-loop-i
invariant-loop-i l = record {
  fits : IsTrue (list_all (label_fits l.self.signals.now l.subject.width) (drop l.i l.labels));
  rest : item_test l.self.signals.now l.map l.fn.nodes l.subject l.labels ≡ labels_made l.self.signals.now l.map l.nodes l.so_far l.subject (drop l.i l.labels);
}
