use Rattle.std.proofs.Common.{◌<◌, length, All}
use Rattle.design_core.specs.declared.design.Design.{Design}
use Rattle.design_core.specs.TraceFits.{IsTraceOf}
use Rattle.cycle_sim.specs.Simulated.{CanSimulate}
use Rattle.cycle_sim.specs.Misses.{AreValuesFor}
use Rattle.parallel_replay.proofs.SetLaws.{of-only, piece-fits}
use Rattle.parallel_replay.proofs.set_search.fn.search_all.search.Goals as goal

pub first_to_miss-requires : goal.first_to_miss-requires
first_to_miss-requires c d =
    let tried = d.requires.0 in
    record {
      trial = record {
        can = of-only (λ (e : Design). CanSimulate e d.captures.order.now) d.captures.designs.now d.only_design.result.now d.only_design.ensures tried.can;
        traces = of-only (λ (e : Design). All (IsTraceOf e) d.captures.traces.now) d.captures.designs.now d.only_design.result.now d.only_design.ensures tried.each;
        many = tried.many;
        few = of-only (λ (e : Design). length e.outputs.items < 4294967296) d.captures.designs.now d.only_design.result.now d.only_design.ensures tried.outputs;
      };
      values = record {
        many = tried.few;
        values = of-only (λ (e : Design). All (λ set. AreValuesFor e d.captures.traces.now set.values) d.captures.sets.now) d.captures.designs.now d.only_design.result.now
            d.only_design.ensures tried.values;
      };
      piece = piece-fits d.args.worker d.captures.many d.requires.1 d.requires.2;
    }
