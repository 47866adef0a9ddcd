-- What the waves of sets are of: a design with its top's and its clock's names, and traces of it.
use Rattle.std.specs.Prelude.{ℕ, ◌≡◌, ◌<◌, ◌^◌, List, length, All, Option, slice_get, Some}
use Rattle.std.specs.Option.{option_copied}
use Rattle.design_core.specs.declared.design.Design.{Design}
use Rattle.design_core.specs.declared.trace.Trace.{Trace}
use Rattle.design_core.specs.declared.values.SetWithValues.{SetWithValues}
use Rattle.design_core.specs.Explained.{choices_in, cycles_before, is_one_of}
use Rattle.design_core.specs.Run.{IsRun}
use Rattle.design_core.specs.TraceFits.{IsTraceOf}
use Rattle.design_core.specs.Valuation.{Valuation}
use Rattle.cycle_sim.specs.Misses.{AreValuesFor}
use Rattle.cycle_sim.specs.Simulated.{IsSimulable}
use Rattle.set_waves.specs.declared.waves.Waves.{Waves}

pub record Waved : Type 0 where
  pub top : List ℕ
  pub clock : Option (List ℕ)
  pub design : Design
  pub traces : List Trace

-- what is asked for
abbrev pub waved_of : Waves → Waved
waved_of waves =
    record { top = waves.top.now; clock = option_copied waves.clock; design = waves.design.now; traces = waves.traces.now }

-- ---- runs
-- a run for each set and each trace, both counted from 0
abbrev pub Runs : Type 0
Runs = ℕ → ℕ → List Valuation

-- each is the run of its trace with the set's places freed, the set's values being chosen for them
abbrev pub AreRuns : Waved → List SetWithValues → Runs → Type 0
AreRuns w sets runs =
    (s j : ℕ) (set : SetWithValues) (trace : Trace) → slice_get sets s ≡ Some set → slice_get w.traces j ≡ Some trace
    → IsRun w.design trace (is_one_of set.values.places.items) (choices_in w.traces set.values j) (runs s j)

-- ---- what is asked
-- the design has one cycle for all samples and states, in the order of its drivers; the traces are of it, and their cycles have numbers
pub record CanBeWaved (w : Waved) (order : List ℕ) : Type 0 where
  pub simulable : IsSimulable w.design order
  pub traces : All (IsTraceOf w.design) w.traces
  pub few : cycles_before w.traces (length w.traces) < 2 ^ 32

-- the values of each set are of places of the design: a word of its width for each of them in each cycle of the traces
abbrev pub HaveValues : Waved → List SetWithValues → Type 0
HaveValues w sets = All (λ set. AreValuesFor w.design w.traces set.values) sets
