use Rattle.std.proofs.Common.{◌≡◌, ◌+◌, drop}
use Rattle.std.specs.Prelude.{IsTrue}
use Rattle.std.specs.List.{list_all}
use Rattle.design_core.specs.Store.{parts_width}
use Rattle.design_core.specs.WellFormed.{part_fits}
use Rattle.synth_parts.proofs.store.Left.parts_width.Given as goal

abbrev pub invariant-loop-i : goal.invariant-loop-i
invariant-loop-i l = record {
  sum : l.sum + parts_width l.self.signals.now (drop l.i l.parts) ≡ parts_width l.self.signals.now l.parts;
  fits : IsTrue (list_all (part_fits l.self.signals.now) (drop l.i l.parts));
}
