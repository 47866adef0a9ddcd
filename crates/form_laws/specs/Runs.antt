-- The run of a circuit over a trace, where the bits of some places are freed: what each literal is in each cycle, and when the
-- checked bits of the outputs have their expected values.
use Rattle.std.specs.Prelude.{ℕ, zero, suc, ◌≡◌, ◌<◌, Bool, true, List, length, slice_get, Some, Contains}
use Rattle.loc_base.specs.Bits.{bit_of}
use Rattle.gate_base.specs.declared.literal.Literal.{Literal}
use Rattle.gate_base.specs.Meaning.{Source, bit_value}
use Rattle.design_core.specs.declared.trace.Checked.{Checked}
use Rattle.design_core.specs.declared.trace.Trace.{Trace}
use Rattle.bit_circuit.specs.Circuits.{BitNet}
use Rattle.unroller.specs.Cycles.{sampled, held}
use Rattle.unroller.specs.Unrolls.{samples_in, expected_in}

-- bits that are chosen: by the cycle, the place and the bit of the place
abbrev pub Chosen : Type 0
Chosen = ℕ → ℕ → ℕ → Bool

-- what a circuit is given in a cycle of a trace, whose states are held
abbrev pub given : Trace → (ℕ → Bool) → Chosen → ℕ → (ℕ → ℕ → Bool) → Source
given trace freed chosen t state = record {
  inputs = sampled (samples_in trace t);
  states = state;
  frees = freed;
  chosen = λ moment place bit. chosen t place bit;
}

-- the bits of the states before a cycle: those of the start, then the next ones of the cycle before
abbrev pub state_before : BitNet → Trace → (ℕ → Bool) → Chosen → ℕ → (ℕ → ℕ → Bool)
state_before circuit trace freed chosen zero = sampled circuit.start
state_before circuit trace freed chosen (suc t) =
    λ s b. bit_value (given trace freed chosen t (state_before circuit trace freed chosen t)) circuit.nodes (held circuit.next s b)

-- what a literal of the circuit is in a cycle
abbrev pub value_in_cycle : BitNet → Trace → (ℕ → Bool) → Chosen → ℕ → Literal → Bool
value_in_cycle circuit trace freed chosen t l =
    bit_value (given trace freed chosen t (state_before circuit trace freed chosen t)) circuit.nodes l

-- where literals have these values, each bit of an output that is checked has its expected value
abbrev pub AreRight : (Literal → Bool) → List (List Literal) → List Checked → Type 0
AreRight value outputs expected =
    (i b : ℕ) (word : List Literal) (checked : Checked) (l : Literal)
    → slice_get outputs i ≡ Some word → slice_get expected i ≡ Some checked → slice_get word b ≡ Some l
    → bit_of checked.mask b ≡ true → value l ≡ bit_of checked.value b

-- in each cycle of the trace each checked bit of the outputs has its expected value
abbrev pub CircuitMeets : BitNet → Trace → (ℕ → Bool) → Chosen → Type 0
CircuitMeets circuit trace freed chosen =
    (t : ℕ) → t < trace.cycles
    → AreRight (value_in_cycle circuit trace freed chosen t) circuit.outputs (expected_in (length circuit.outputs) trace t)

-- for each trace some bits can be chosen with which it does
abbrev pub CircuitWorks : BitNet → List Trace → (ℕ → Bool) → Type 0
CircuitWorks circuit traces freed =
    (trace : Trace) → Contains traces trace → (chosen : Chosen) × CircuitMeets circuit trace freed chosen
