-- What replaying a trace answers.
use Rattle.std.specs.Prelude.{ℕ, ◌≡◌, ◌<◌, ◌+◌, ◌⊎◌, Bool, false, IsTrue, List, slice_get, Option, Some, None}
use Rattle.std.specs.Option.{option_map_or}
use Rattle.loc_base.specs.declared.bits.Bits.{Bits}
use Rattle.loc_base.specs.Bits.{bit_of, value_of}
use Rattle.design_core.specs.declared.design.Design.{Design}
use Rattle.design_core.specs.declared.trace.Checked.{Checked}
use Rattle.design_core.specs.declared.trace.Trace.{Trace}
use Rattle.design_core.specs.Valuation.{Valuation}
use Rattle.design_core.specs.declared.values.Values.{Values}
use Rattle.design_core.specs.Cycle.{Cycle}
use Rattle.design_core.specs.Given.{freed_of}
use Rattle.design_core.specs.Explained.{is_one_of, number_for, row_at}
use Rattle.design_core.specs.Run.{Choices, Meets, IsRight, samples_at, expected_at, choice_at}
use Rattle.cycle_sim.specs.Misses.{MissesAt}

-- the output of a number is not right
pub record WrongAt (d : Design) (expected : List Checked) (V : Valuation) (i : ℕ) : Type 0 where
  pub output : ℕ
  pub is_output : slice_get d.outputs.items i ≡ Some output
  pub checked : Checked
  pub is_checked : slice_get expected i ≡ Some checked
  pub wrong : ¬ ((b : ℕ) → IsTrue (bit_of checked.mask b) → V output b ≡ bit_of checked.value b)

-- the outputs before a number are right
abbrev pub RightBefore : Design → List Checked → Valuation → ℕ → Type 0
RightBefore d expected V n =
    (i output : ℕ) (checked : Checked) (b : ℕ) → i < n → slice_get d.outputs.items i ≡ Some output → slice_get expected i ≡ Some checked
    → IsTrue (bit_of checked.mask b) → V output b ≡ bit_of checked.value b

-- the first output that is not right, where one is not
abbrev pub FirstWrong : Design → List Checked → Valuation → Option ℕ → Type 0
FirstWrong d expected V None = IsRight d expected V
FirstWrong d expected V (Some i) = WrongAt d expected V i × RightBefore d expected V i

-- the first cycle of a trace in which an output is not right, with the first such output, where there is one
abbrev pub TraceReplays : Design → Trace → (ℕ → Bool) → Choices → Option (ℕ × ℕ) → Type 0
TraceReplays d trace freed c None = Meets d trace freed c
TraceReplays d trace freed c (Some (t, i)) =
    MissesAt d trace freed c t i × ((u j : ℕ) → MissesAt d trace freed c u j → ¬ ((u < t) ⊎ ((u ≡ t) × (j < i))))

-- the number that words give for a place, 0 where there is none
abbrev pub chosen_at : List Bits → ℕ → ℕ
chosen_at words p = option_map_or value_of (slice_get words p) 0

-- the values of places in rows from one on, as choices
abbrev pub choices_from : Values → ℕ → Choices
choices_from values first t p = number_for values.places.items (row_at values (first + t)) p

-- one cycle of a trace, begun in a state: its values, with the first output that is not right
pub record CycleReplays (d : Design) (trace : Trace) (values : Values) (first t : ℕ) (state next : Valuation)
    (answer : Option ℕ) : Type 0 where
  pub now : Valuation
  pub cycle : Cycle d (samples_at d trace t) state (choice_at (is_one_of values.places.items) (choices_from values first) t) now next
  pub wrong : FirstWrong d (expected_at d trace t) now answer

-- the entries that replay chooses by: the places alone are freed, and the others' values are 0
pub record AreReady (values : Values) (frees : List Bool) (choice : List Bits) : Type 0 where
  pub freed : (p : ℕ) → freed_of frees p ≡ is_one_of values.places.items p
  pub zeros : (p : ℕ) → is_one_of values.places.items p ≡ false → chosen_at choice p ≡ 0
