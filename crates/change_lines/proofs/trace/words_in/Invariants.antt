use Rattle.std.proofs.Common.{◌≡◌, ◌<◌, ℕ, length, map, take}
use Rattle.loc_base.specs.Bits.{width_of}
use Rattle.design_core.specs.Words.{valuation_of}
use Rattle.cycle_sim.specs.Simulator.{held_by}
use Rattle.change_lines.proofs.trace.words_in.Given as goal

abbrev pub invariant-loop-signal : goal.invariant-loop-signal
invariant-loop-signal l = record {
  count : length l.words.items ≡ l.signal;
  widths : map width_of l.words.items ≡ map (λ s. s.width) (take l.signal l.design.signals.items);
  values : (s b : ℕ) → s < l.signal → valuation_of l.words.items s b ≡ (held_by l.sim).values s b;
}
