use Rattle.std.proofs.Common.{◌≡◌, ◌-◌, length}
use Rattle.synth_parts.specs.Store.{words_stored}
use Rattle.synth_parts.proofs.store.Left.words.Given as goal

abbrev pub invariant-loop-place : goal.invariant-loop-place
invariant-loop-place l = record {
  each : length l.map.now ≡ length l.self.signals.now;
  base : l.map.base ≡ l.fn.map.base;
  rest : words_stored l.self.signals.now l.store.array l.store.stored l.fn.nodes l.fn.map.now 0 l.count
      ≡ words_stored l.self.signals.now l.store.array l.store.stored l.nodes l.map.now l.place (l.count - l.place);
}
