use Rattle.std.proofs.Common.{◌++◌, List, map, ap, ◌∙◌}
use Rattle.std.proofs.lemmas.List.{take_all}
use Rattle.loc_base.specs.Bits.{width_of}
use Rattle.vcd_traces.specs.declared.moment.Watch.{Watch}
use Rattle.vcd_traces.proofs.moment.Moment.push_samples.Goals as goal

pub returns-clause-widths : goal.returns-clause-widths
returns-clause-widths c =
    c.loop-watch.invariant.widths
    ∙ ap (λ (l : List Watch). map width_of c.args.samples.now.items ++ map (λ (watch : Watch). watch.width) l)
    (take_all c.loop-watch.watch-index c.args.watches.now c.loop-watch-test.false)
