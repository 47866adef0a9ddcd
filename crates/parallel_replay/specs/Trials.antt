-- Private, for the functions inside this crate: what the values of sets are tried on.
use Rattle.std.specs.Prelude.{ℕ, ◌≡◌, ◌<◌, ◌^◌, List, [], ◌∷◌, length, All, Option, Some, None, Result, Ok, Err}
use Rattle.loc_base.specs.declared.memory.NoMemory.{NoMemory}
use Rattle.design_core.specs.declared.design.Design.{Design}
use Rattle.design_core.specs.declared.trace.Trace.{Trace}
use Rattle.design_core.specs.declared.values.SetWithValues.{SetWithValues}
use Rattle.design_core.specs.TraceFits.{IsTraceOf}
use Rattle.cycle_sim.specs.declared.miss.Miss.{Miss}
use Rattle.cycle_sim.specs.Simulated.{CanSimulate, IsSimulable}
use Rattle.cycle_sim.specs.Misses.{AreValuesFor, FirstToMiss}
use Rattle.parallel_replay.specs.declared.trial.Trial.{Trial}

-- the first answer that isn't that nothing was found
abbrev pub first_of : List (Result (Option (ℕ × Miss)) NoMemory) → Result (Option (ℕ × Miss)) NoMemory
first_of [] = Ok None
first_of (Ok None ∷ rest) = first_of rest
first_of (Ok (Some found) ∷ rest) = Ok (Some found)
first_of (Err e ∷ rest) = Err e

-- the design can be simulated, the traces are of it, and neither they nor its outputs are too many to have numbers
pub record IsTrial (t : Trial) : Type 0 where
  pub can : CanSimulate t.design.now t.order.now
  pub traces : All (IsTraceOf t.design.now) t.traces.now
  pub many : length t.traces.now < 2 ^ 32
  pub few : length t.design.now.outputs.items < 2 ^ 32

-- the sets have numbers, and the values of each are of places of the design, a word for each of them in each cycle of the traces
pub record HaveValues (t : Trial) (sets : List SetWithValues) : Type 0 where
  pub many : length sets < 2 ^ 32
  pub values : All (λ set. AreValuesFor t.design.now t.traces.now set.values) sets

-- the same, of a list of one design
pub record AreTried (designs : List Design) (order : List ℕ) (traces : List Trace) (sets : List SetWithValues) : Type 0 where
  pub one : length designs ≡ 1
  pub can : All (λ d. CanSimulate d order) designs
  pub each : All (λ d. All (IsTraceOf d) traces) designs
  pub outputs : All (λ d. length d.outputs.items < 2 ^ 32) designs
  pub many : length traces < 2 ^ 32
  pub few : length sets < 2 ^ 32
  pub values : All (λ d. All (λ set. AreValuesFor d traces set.values) sets) designs

-- what is found among the sets from one number up to another, for the design of a list of one
abbrev pub FoundFrom : List Design → List ℕ → List Trace → List SetWithValues → ℕ → ℕ → Option (ℕ × Miss) → Type 0
FoundFrom designs order traces sets from to found = All (λ d. IsSimulable d order → FirstToMiss d traces sets from to found) designs
