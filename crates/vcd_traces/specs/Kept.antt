-- What the cycles that are kept say of the stamps so far.
use Rattle.std.specs.Prelude.{ℕ, ◌≡◌, ◌≤◌, min, List, [], ◌∷◌, length, map, Option, None, bit_and}
use Rattle.std.specs.List.{find}
use Rattle.std.specs.Option.{option_map}
use Rattle.vcd_reading.specs.declared.error.VcdErr.{VcdErr}
use Rattle.vcd_reading.specs.declared.error.VcdErr.TheVariants.{UnknownInput}
use Rattle.vcd_traces.specs.declared.rows.Unknown.{Unknown}
use Rattle.vcd_reading.specs.Events.{Event}
use Rattle.vcd_traces.specs.Samples.{Watch, Watches, sample, is_unknown, known_bits, needed, unknown_from}
use Rattle.vcd_traces.specs.Rows.{Row, Cycle, Kept, no_row, joined}

-- the samples at a stamp
abbrev pub row_at : Watches → List Event → ℕ → Row
row_at w events time = record {
  inputs = map (λ watch. (sample w.clock events time watch).ones) w.inputs;
  input_widths = map (λ (watch : Watch). watch.width) w.inputs;
  masks = map (λ watch. known_bits watch.width (sample w.clock events time watch)) w.outputs;
  mask_widths = map (λ (watch : Watch). watch.width) w.outputs;
  values = map (λ watch. bit_and (sample w.clock events time watch).ones (known_bits watch.width (sample w.clock events time watch))) w.outputs;
  value_widths = map (λ (watch : Watch). watch.width) w.outputs;
}

-- the signal of the first input that has an unknown bit at a stamp and may have none, and the samples there
abbrev pub cycle_at : Watches → List Event → ℕ → Cycle
cycle_at w events time = record {
  unknown = option_map (λ (watch : Watch). watch.signal) (find (is_unknown w.clock events time) (needed w.zero_inputs w.inputs));
  row = row_at w events time;
}

-- the samples at some stamps
abbrev pub rows_at : Watches → List Event → List ℕ → Row
rows_at w events [] = no_row
rows_at w events (time ∷ times) = joined (row_at w events time) (rows_at w events times)

-- the refusal that an unknown input is
abbrev pub refusal_by : Option Unknown → Option VcdErr
refusal_by unknown = option_map (λ (u : Unknown). UnknownInput u.cycle u.signal) unknown

-- the cycles that are kept are those of some stamps, as far as a trace may have them
pub record AreKept (w : Watches) (events : List Event) (times : List ℕ) (kept : Kept) : Type 0 where
  pub cycles : kept.cycles ≡ min (length times) 100001
  pub unknown : length times ≤ 100000 → refusal_by kept.unknown ≡ unknown_from w events 0 times
  pub rows : length times ≤ 100000 → kept.unknown ≡ None → kept.rows ≡ rows_at w events times
