use Rattle.std.proofs.Common.{◌≡◌, drop, length}
use Rattle.node_map.specs.Pairs.{IsSettled}
use Rattle.synth_parts.specs.Driver.{drivers_made}
use Rattle.synth_parts.proofs.store.Left.in_order.Given as goal

abbrev pub invariant-loop-k : goal.invariant-loop-k
invariant-loop-k l = record {
  each : length l.both.current.now ≡ length l.self.signals.now;
  settled : IsSettled l.both.current l.both.later;
  rest : drivers_made l.self.signals.now l.drivers l.fn.nodes l.fn.both.current.now l.order ≡ drivers_made l.self.signals.now l.drivers l.nodes l.both.current.now (drop l.k l.order);
}
