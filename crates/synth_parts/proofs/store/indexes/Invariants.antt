use Rattle.std.proofs.Common.{◌≡◌, [], drop}
use Rattle.std.specs.Prelude.{IsTrue}
use Rattle.std.specs.List.{list_all}
use Rattle.design_core.specs.WellFormed.{part_fits}
use Rattle.synth_parts.specs.Store.{indexes_made}
use Rattle.synth_parts.proofs.store.indexes.Given as goal

abbrev pub invariant-loop-i : goal.invariant-loop-i
invariant-loop-i l = record {
  made : indexes_made l.at.signals.now l.at.nodes_of.now l.fn.nodes [] l.parts ≡ indexes_made l.at.signals.now l.at.nodes_of.now l.nodes l.all (drop l.i l.parts);
  fits : IsTrue (list_all (part_fits l.at.signals.now) (drop l.i l.parts));
}
