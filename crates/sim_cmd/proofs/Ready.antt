-- A design that is read can be simulated, and traces that are read are of it.
use Rattle.std.proofs.Common.{ℕ, List, length}
use Rattle.std.specs.Prelude.{All}
use Rattle.loc_base.proofs.ShelfLists.{list_all-below}
use Rattle.design_core.specs.declared.design.Design.{Design}
use Rattle.plain_sim.proofs.EvaluateRun.{can-run}
use Rattle.design_core.specs.declared.trace.Trace.{Trace}
use Rattle.design_core.specs.TraceFits.{IsTraceOf}
use Rattle.sim_lines.specs.CanShow.{CanShow}
use Rattle.front_end.specs.Means.{IsReady}
use Rattle.load_texts.specs.Means.{IsReadOf}

pub can-show : (d : Design) (order : List ℕ) → IsReady d order → CanShow d order
can-show d order ready = record {
  can = record {
    can_run = can-run d ready.well_formed;
    numbers = list_all-below (length d.drivers.items) order ready.ordered.numbers;
  };
  simulable = record { well_formed = ready.well_formed; once = ready.once; ordered = ready.ordered };
  few = ready.outputs;
}

-- traces that were read can be shown
pub are-fit : (d : Design) (traces : List Trace) → All (IsReadOf d) traces → All (IsTraceOf d) traces
are-fit d traces all i x low = (all i x low).fits

pub ruleset ready_rules = (can-show, are-fit)
