use Rattle.std.proofs.Common.{◌≡◌, ◌-◌, length}
use Rattle.synth_parts.specs.Statement.{maps}
use Rattle.v_synth.specs.Clocked.{owns_made}
use Rattle.v_synth.proofs.OwnSteps.{gone}
use Rattle.v_synth.proofs.block.Own.signals.Given as goal

abbrev pub invariant-loop-i : goal.invariant-loop-i
invariant-loop-i l = record {
  each : length l.map ≡ length l.self.design.now.signals.items;
  rest : owns_made l.self.design.now l.self.block.now l.turn (maps l.fn.nodes l.self.assigned.now.both.current.now l.self.assigned.now.both.later.now) l.fn.nodes l.fn.map 0 (length l.self.design.now.signals.items)
      ≡ owns_made l.self.design.now l.self.block.now l.turn (maps l.fn.nodes l.self.assigned.now.both.current.now l.self.assigned.now.both.later.now) l.nodes l.map (gone l.driven l.i) (length l.self.design.now.signals.items - gone l.driven l.i);
}
