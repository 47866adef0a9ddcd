use Rattle.std.proofs.Common.{◌≡◌, drop, length}
use Rattle.std.specs.Prelude.{IsTrue}
use Rattle.std.specs.List.{list_all}
use Rattle.design_core.specs.WellFormed.{clocked_fits}
use Rattle.v_synth.specs.Owned.{IsBlank}
use Rattle.v_synth.specs.Clocked.{resets_made}
use Rattle.v_synth.proofs.rows.Blocks.resets.Given as goal

abbrev pub invariant-loop-i : goal.invariant-loop-i
invariant-loop-i l = record {
  blank : IsBlank (length l.self.design.now.signals.items) l.assigned;
  from : l.assigned.both.current.now ≡ l.from;
  each : length l.map ≡ length l.self.design.now.signals.items;
  fits : IsTrue (list_all (clocked_fits l.self.design.now) (drop l.i l.self.design.now.clocked.items));
  rest : resets_made l.self.design.now l.from l.fn.nodes l.fn.map l.self.design.now.clocked.items ≡ resets_made l.self.design.now l.from l.nodes l.map (drop l.i l.self.design.now.clocked.items);
}
