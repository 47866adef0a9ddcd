-- When a circuit is that of a design: in each cycle it has the design's outputs and next states.
use Rattle.std.specs.Prelude.{ℕ, ◌≡◌, ◌<◌, ◌^◌, Bool, IsTrue, List, length, slice_get, Some}
use Rattle.loc_base.specs.declared.bits.Bits.{Bits}
use Rattle.gate_base.specs.declared.literal.Literal.{Literal}
use Rattle.gate_base.specs.Meaning.{Source, bit_value}
use Rattle.design_core.specs.declared.design.Design.{Design}
use Rattle.design_core.specs.declared.place.Place.{Place}
use Rattle.design_core.specs.Valuation.{Valuation, bit, width_at}
use Rattle.design_core.specs.After.{Choice}
use Rattle.design_core.specs.Cycle.{Cycle}
use Rattle.design_core.specs.Run.{start_state}
use Rattle.design_core.specs.TraceFits.{samples_fit}
use Rattle.bit_circuit.specs.Circuits.{BitNet}
use Rattle.unroller.specs.declared.free_bit.FreeBit.{FreeBit}
use Rattle.unroller.specs.Cycles.{sampled, held, free_bits}

-- which bits the circuit's states have, in a state of the design
abbrev pub Reading : Type 0
Reading = Valuation → ℕ → ℕ → Bool

-- what the circuit is given in a cycle
abbrev pub given_cycle : List Bits → (ℕ → ℕ → Bool) → Choice → Source
given_cycle samples states choice = record {
  inputs = sampled samples;
  states = states;
  frees = choice.frees;
  chosen = λ moment place b. bit (choice.chosen place) b;
}

-- the numbers that are chosen for freed places have the places' widths
abbrev pub IsOfWidth : Design → Choice → Type 0
IsOfWidth d choice =
    (p : ℕ) (place : Place) → slice_get d.places.items p ≡ Some place → IsTrue (choice.frees p) → choice.chosen p < 2 ^ place.width

-- a cycle of the design, its samples and choices of their widths
pub record OneCycle (d : Design) (samples : List Bits) (state : Valuation) (choice : Choice) (V next : Valuation) : Type 0 where
  pub samples_fit : IsTrue (samples_fit d.signals.items d.inputs.items samples)
  pub choice_fits : IsOfWidth d choice
  pub cycle : Cycle d samples state choice V next

-- the circuit is that of the design
pub record IsCircuitOf (d : Design) (circuit : BitNet) (read : Reading) : Type 0 where
  -- its states begin as the design's do
  pub start : (s b : ℕ) → sampled circuit.start s b ≡ read (start_state d) s b
  -- it has the design's outputs, with a literal for each bit
  pub outputs : length circuit.outputs ≡ length d.outputs.items
  pub wide : (i output : ℕ) (word : List Literal) → slice_get d.outputs.items i ≡ Some output → slice_get circuit.outputs i ≡ Some word
      → length word ≡ width_at d.signals.items output
  -- in each cycle the literals of the outputs are the bits of the outputs, and those of the next states the bits of these
  pub values : (samples : List Bits) (state : Valuation) (choice : Choice) (V next : Valuation) → OneCycle d samples state choice V next
      → (i output b : ℕ) (word : List Literal) (l : Literal) → slice_get d.outputs.items i ≡ Some output
      → slice_get circuit.outputs i ≡ Some word → slice_get word b ≡ Some l
      → bit_value (given_cycle samples (read state) choice) circuit.nodes l ≡ V output b
  pub next : (samples : List Bits) (state : Valuation) (choice : Choice) (V next : Valuation) → OneCycle d samples state choice V next
      → (s b : ℕ) → bit_value (given_cycle samples (read state) choice) circuit.nodes (held circuit.next s b) ≡ read next s b
  -- its free bits are bits of places of the design
  pub places : (column : ℕ) (x : FreeBit) → slice_get (free_bits circuit.nodes) column ≡ Some x
      → (place : Place) × (slice_get d.places.items x.place ≡ Some place) × (x.bit < place.width)
