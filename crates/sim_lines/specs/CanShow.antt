-- Of which designs and traces the lines are printed.
use Rattle.std.specs.Prelude.{ℕ, ◌<◌, ◌^◌, List, length, All}
use Rattle.design_core.specs.declared.design.Design.{Design}
use Rattle.design_core.specs.declared.trace.Trace.{Trace}
use Rattle.design_core.specs.TraceFits.{IsTraceOf}
use Rattle.cycle_sim.specs.Simulated.{CanSimulate, IsSimulable}

-- the design is one that has one cycle for all samples and states, and its outputs have numbers
pub record CanShow (d : Design) (order : List ℕ) : Type 0 where
  pub can : CanSimulate d order
  pub simulable : IsSimulable d order
  pub few : length d.outputs.items < 2 ^ 32

-- the traces are of the design, and they have numbers
pub record AreShown (d : Design) (traces : List Trace) : Type 0 where
  pub each : All (IsTraceOf d) traces
  pub few : length traces < 2 ^ 32
