use Rattle.std.proofs.Common.{◌≡◌, drop, length}
use Rattle.std.specs.Prelude.{IsTrue}
use Rattle.std.specs.List.{list_all}
use Rattle.design_core.specs.Store.{parts_width}
use Rattle.design_core.specs.WellFormed.{part_fits}
use Rattle.synth_parts.specs.Store.{parts_stored}
use Rattle.synth_parts.proofs.store.Left.parts.Given as goal

abbrev pub invariant-loop-i : goal.invariant-loop-i
invariant-loop-i l = record {
  each : length l.map.now ≡ length l.self.signals.now;
  base : l.map.base ≡ l.fn.map.base;
  left : l.offset ≡ parts_width l.self.signals.now (drop l.i l.sides.parts.now);
  fits : IsTrue (list_all (part_fits l.self.signals.now) (drop l.i l.sides.parts.now));
  rest : parts_stored l.self.signals.now l.fn.nodes l.fn.map.now l.sides.parts.now l.sides.indexes.now l.word
      ≡ parts_stored l.self.signals.now l.nodes l.map.now (drop l.i l.sides.parts.now) (drop l.i l.sides.indexes.now) l.word;
}
