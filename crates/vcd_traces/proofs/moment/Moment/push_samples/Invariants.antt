use Rattle.std.proofs.Common.{◌≡◌, ◌++◌, map, take}
use Rattle.loc_base.specs.Bits.{width_of, value_of}
use Rattle.vcd_traces.specs.declared.moment.Watch.{Watch}
use Rattle.vcd_traces.specs.Moment.{kept_sample}
use Rattle.vcd_traces.proofs.moment.Moment.push_samples.Given as goal

abbrev pub invariant-loop-watch : goal.invariant-loop-watch
invariant-loop-watch l = record {
  values : map value_of l.samples.items ≡ map value_of l.initial.samples.items ++ map (λ watch. (kept_sample l.self watch).ones) (take l.watch-index l.watches);
  widths : map width_of l.samples.items ≡ map width_of l.initial.samples.items ++ map (λ (watch : Watch). watch.width) (take l.watch-index l.watches);
}
