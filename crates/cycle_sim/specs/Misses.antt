-- Where traces are not right with values chosen for places: the trace, the cycle and the output, each counted from 0.
use Rattle.std.specs.Prelude.{ℕ, ◌≡◌, ◌<◌, ◌≤◌, ◌⊎◌, Bool, IsTrue, List, length, slice_get, Option, Some, None, All}
use Rattle.loc_base.specs.Bits.{bit_of}
use Rattle.design_core.specs.declared.design.Design.{Design}
use Rattle.design_core.specs.declared.trace.Checked.{Checked}
use Rattle.design_core.specs.declared.trace.Trace.{Trace}
use Rattle.design_core.specs.declared.values.Values.{Values}
use Rattle.design_core.specs.declared.values.SetWithValues.{SetWithValues}
use Rattle.design_core.specs.Valuation.{Valuation}
use Rattle.design_core.specs.Run.{Choices, IsRun, Meets, expected_at}
use Rattle.design_core.specs.Explained.{is_one_of, choices_in, cycles_before, AreRows}
use Rattle.cycle_sim.specs.declared.miss.Miss.{Miss}

-- an output whose checked bits are not all as expected in a cycle of the run of a trace
pub record MissesAt (d : Design) (trace : Trace) (freed : ℕ → Bool) (c : Choices) (t i : ℕ) : Type 0 where
  pub run : List Valuation
  pub is_run : IsRun d trace freed c run
  pub values : Valuation
  pub in_cycle : slice_get run t ≡ Some values
  pub output : ℕ
  pub is_output : slice_get d.outputs.items i ≡ Some output
  pub checked : Checked
  pub is_checked : slice_get (expected_at d trace t) i ≡ Some checked
  pub wrong : ¬ ((b : ℕ) → IsTrue (bit_of checked.mask b) → values output b ≡ bit_of checked.value b)

-- an output that misses in a cycle of one of the traces, with the values as choices
pub record IsMiss (d : Design) (traces : List Trace) (values : Values) (miss : Miss) : Type 0 where
  pub trace : Trace
  pub is_trace : slice_get traces miss.trace ≡ Some trace
  pub misses : MissesAt d trace (is_one_of values.places.items) (choices_in traces values miss.trace) miss.cycle miss.output

-- by the trace, then the cycle, then the output
abbrev pub IsBefore : Miss → Miss → Type 0
IsBefore one other =
    (one.trace < other.trace)
    ⊎ ((one.trace ≡ other.trace) × ((one.cycle < other.cycle) ⊎ ((one.cycle ≡ other.cycle) × (one.output < other.output))))

-- a miss that none is before
pub record IsLeastMiss (d : Design) (traces : List Trace) (values : Values) (miss : Miss) : Type 0 where
  pub misses : IsMiss d traces values miss
  pub least : (other : Miss) → IsMiss d traces values other → ¬ IsBefore other miss

-- with the values as choices each trace is right
abbrev pub MeetAll : Design → List Trace → Values → Type 0
MeetAll d traces values =
    (j : ℕ) (trace : Trace) → slice_get traces j ≡ Some trace → Meets d trace (is_one_of values.places.items) (choices_in traces values j)

-- the values are of places of the design: a word of its width for each of them in each cycle of the traces
pub record AreValuesFor (d : Design) (traces : List Trace) (values : Values) : Type 0 where
  pub places : All (λ p. p < length d.places.items) values.places.items
  pub rows : AreRows d values.places.items values.rows.items (cycles_before traces (length traces))

-- the answer for some values: none where each trace is right, else the least miss
abbrev pub Replays : Design → List Trace → Values → Option Miss → Type 0
Replays d traces values None = MeetAll d traces values
Replays d traces values (Some miss) = IsLeastMiss d traces values miss

-- with the values of each of the sets from one number up to another each trace is right
abbrev pub AllMeet : Design → List Trace → List SetWithValues → ℕ → ℕ → Type 0
AllMeet d traces sets from to =
    (i : ℕ) (set : SetWithValues) → from ≤ i → i < to → slice_get sets i ≡ Some set → MeetAll d traces set.values

-- a set whose values miss, with its least miss, where those from one number up to it don't
pub record IsFirstToMiss (d : Design) (traces : List Trace) (sets : List SetWithValues) (from number : ℕ) (miss : Miss) : Type 0 where
  pub set : SetWithValues
  pub is_set : slice_get sets number ≡ Some set
  pub misses : IsLeastMiss d traces set.values miss
  pub first : AllMeet d traces sets from number

-- the answer for the sets from one number up to another: none where each trace is right with the values of each, else the
-- first that misses
abbrev pub FirstToMiss : Design → List Trace → List SetWithValues → ℕ → ℕ → Option (ℕ × Miss) → Type 0
FirstToMiss d traces sets from to None = AllMeet d traces sets from to
FirstToMiss d traces sets from to (Some (number, miss)) = IsFirstToMiss d traces sets from number miss
