-- The cycles of a trace, one after another, and what makes a trace right.
use Rattle.std.specs.Prelude.{ℕ, ◌≡◌, ◌<◌, ◌+◌, ◌*◌, Bool, false, ◌&&◌, IsTrue, List, [], ◌∷◌, length, slice_get, slice_range, Some}
use Rattle.std.specs.Option.{option_map_or}
use Rattle.loc_base.specs.declared.bits.Bits.{Bits}
use Rattle.loc_base.specs.Bits.{bit_of}
use Rattle.design_core.specs.declared.design.Design.{Design}
use Rattle.design_core.specs.declared.trace.Checked.{Checked}
use Rattle.design_core.specs.declared.trace.Trace.{Trace}
use Rattle.design_core.specs.Valuation.{Valuation}
use Rattle.design_core.specs.After.{Choice}
use Rattle.design_core.specs.Drives.{is_register_bit}
use Rattle.design_core.specs.Cycle.{Cycle}

-- the samples of the inputs in a cycle
abbrev pub samples_at : Design → Trace → ℕ → List Bits
samples_at d trace t =
    let inputs = length d.inputs.items in
    slice_range trace.inputs.items (t * inputs) (t * inputs + inputs)

-- what the outputs are expected to be in a cycle
abbrev pub expected_at : Design → Trace → ℕ → List Checked
expected_at d trace t =
    let outputs = length d.outputs.items in
    slice_range trace.expected.items (t * outputs) (t * outputs + outputs)

-- the state before the first cycle: each register has its start value
abbrev pub start_state : Design → Valuation
start_state d s b = is_register_bit d s b && option_map_or (λ signal. bit_of signal.start b) (slice_get d.signals.items s) false

-- values chosen for places: by the cycle, then the place
abbrev pub Choices : Type 0
Choices = ℕ → ℕ → ℕ

-- the freed places with their values in a cycle
abbrev pub choice_at : (ℕ → Bool) → Choices → ℕ → Choice
choice_at freed c t = record { frees = freed; chosen = c t }

-- the cycles from cycle t on, begun in a state, have these valuations
abbrev pub IsRunFrom : Design → Trace → (ℕ → Bool) → Choices → ℕ → Valuation → List Valuation → Type 0
IsRunFrom d trace freed c t state [] = t ≡ trace.cycles
IsRunFrom d trace freed c t state (V ∷ rest) =
    (t < trace.cycles)
    × ((next : Valuation) × Cycle d (samples_at d trace t) state (choice_at freed c t) V next × IsRunFrom d trace freed c (t + 1) next rest)

-- the run of a trace with some places freed: one valuation for each of its cycles
abbrev pub IsRun : Design → Trace → (ℕ → Bool) → Choices → List Valuation → Type 0
IsRun d trace freed c run = IsRunFrom d trace freed c 0 (start_state d) run

-- each checked bit of each output has its expected value
abbrev pub IsRight : Design → List Checked → Valuation → Type 0
IsRight d expected V =
    (i output : ℕ) (checked : Checked) (b : ℕ) → slice_get d.outputs.items i ≡ Some output → slice_get expected i ≡ Some checked
    → IsTrue (bit_of checked.mask b) → V output b ≡ bit_of checked.value b

-- in every cycle of a run, each checked bit of each output has its expected value
abbrev pub IsRightThroughout : Design → Trace → List Valuation → Type 0
IsRightThroughout d trace run = (t : ℕ) (V : Valuation) → slice_get run t ≡ Some V → IsRight d (expected_at d trace t) V

-- the chosen values make the trace right
abbrev pub Meets : Design → Trace → (ℕ → Bool) → Choices → Type 0
Meets d trace freed c = (run : List Valuation) × IsRun d trace freed c run × IsRightThroughout d trace run
