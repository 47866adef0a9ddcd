use Rattle.std.proofs.Common.{◌≡◌, ◌++◌, map, take, bit_and}
use Rattle.loc_base.specs.Bits.{width_of, value_of}
use Rattle.design_core.specs.declared.trace.Checked.{Checked}
use Rattle.vcd_traces.specs.declared.moment.Watch.{Watch}
use Rattle.vcd_traces.specs.Moment.{kept_sample}
use Rattle.vcd_traces.specs.Samples.{known_bits}
use Rattle.vcd_traces.proofs.moment.Moment.push_expected.Given as goal

abbrev pub invariant-loop-watch : goal.invariant-loop-watch
invariant-loop-watch l = record {
  masks : map (λ (c : Checked). value_of c.mask) l.expected.items ≡ map (λ (c : Checked). value_of c.mask) l.initial.expected.items ++ map (λ (watch : Watch). known_bits watch.width (kept_sample l.self watch)) (take l.watch-index l.watches);
  mask_widths : map (λ (c : Checked). width_of c.mask) l.expected.items ≡ map (λ (c : Checked). width_of c.mask) l.initial.expected.items ++ map (λ (watch : Watch). watch.width) (take l.watch-index l.watches);
  values : map (λ (c : Checked). value_of c.value) l.expected.items ≡ map (λ (c : Checked). value_of c.value) l.initial.expected.items ++ map (λ (watch : Watch). bit_and (kept_sample l.self watch).ones (known_bits watch.width (kept_sample l.self watch))) (take l.watch-index l.watches);
  value_widths : map (λ (c : Checked). width_of c.value) l.expected.items ≡ map (λ (c : Checked). width_of c.value) l.initial.expected.items ++ map (λ (watch : Watch). watch.width) (take l.watch-index l.watches);
}
