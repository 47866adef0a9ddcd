-- A run of a design, and the run of its circuit with the bits of the chosen numbers.
use Rattle.std.proofs.Common.{◌≡◌, ◌⊎◌, inl, inr, ℕ, zero, suc, ◌+◌, ◌*◌, ◌/◌, ◌<◌, ◌≤◌, ◌==◌, ◌&&◌, Bool, true, false, List, [], ◌∷◌, length, Some, refl, sym, ◌∙◌, ap, subst, arith, add-one}
use Rattle.std.specs.Prelude.{bit_and, slice_get, slice_range}
use Rattle.std.proofs.Math.Path.{fun_ext}
use Rattle.std.proofs.Math.Nat.{mul-div_cancel_left}
use Rattle.std.proofs.lemmas.Bool.{cases_lt}
use Rattle.std.proofs.lemmas.Nat.Bits.{bit_at_above}
use Rattle.std.proofs.lemmas.Option.{slice_get_within}
use Rattle.loc_base.proofs.ShelfBools.{equal-true}
use Rattle.loc_base.proofs.ShelfLists.{slice_get-some}
use Rattle.loc_base.proofs.ShelfOptions.{Some-same}
use Rattle.loc_base.specs.declared.bits.Bits.{Bits}
use Rattle.loc_base.specs.Bits.{bit_of, width_of, value_of}
use Rattle.gate_base.specs.declared.literal.Literal.{Literal}
use Rattle.gate_base.specs.Meaning.{bit_value}
use Rattle.design_core.specs.declared.design.Design.{Design}
use Rattle.design_core.specs.declared.signal.Signal.{Signal}
use Rattle.design_core.specs.declared.trace.Checked.{Checked}
use Rattle.design_core.specs.declared.trace.Trace.{Trace}
use Rattle.design_core.specs.Valuation.{Valuation, width_at}
use Rattle.design_core.specs.Run.{Choices, choice_at, expected_at, IsRight, IsRunFrom, samples_at}
use Rattle.design_core.specs.TraceFits.{expected_fit, IsTraceOf}
use Rattle.design_core.specs.Works.{AreOfWidth}
use Rattle.bit_circuit.specs.Circuits.{BitNet}
use Rattle.unroller.specs.Cycles.{held}
use Rattle.unroller.specs.Unrolls.{expected_in, samples_in}
use Rattle.form_laws.specs.Runs.{AreRight, given, state_before, value_in_cycle}
use Rattle.form_laws.specs.Circuits.{given_cycle, IsCircuitOf, OneCycle, Reading}
use Rattle.form_laws.specs.Designs.{bits_of}

-- as many samples in each cycle as the design has inputs
samples-same : (d : Design) (trace : Trace) (t : ℕ) → IsTraceOf d trace → t < trace.cycles → samples_in trace t ≡ samples_at d trace t
samples-same d trace t fits low = ap (λ w. slice_range trace.inputs.items (t * w) (t * w + w)) width
  where
    width : length trace.inputs.items / trace.cycles ≡ length d.inputs.items
    width = ap (λ n. n / trace.cycles) fits.sample_count ∙ mul-div_cancel_left (length d.inputs.items) (omega (arith, low))

-- the second and the last of four that hold
four-parts : (a b c e : Bool) → (a && b && c && e) ≡ true → (b ≡ true) × (e ≡ true)
four-parts true true true true all = (refl, refl)
four-parts true true true false all = cc
four-parts true true false e all = cc
four-parts true false c e all = cc
four-parts false b c e all = cc

-- the mask of an output has the output's width
mask-wide : (signals : List Signal) (outputs : List ℕ) (expected : List Checked) → expected_fit signals outputs expected ≡ true
    → (i output : ℕ) (checked : Checked) → slice_get outputs i ≡ Some output → slice_get expected i ≡ Some checked
    → width_of checked.mask ≡ width_at signals output
mask-wide signals [] expected fits i output checked in_outputs in_expected = cc
mask-wide signals (s ∷ outputs) [] fits i output checked in_outputs in_expected = cc
mask-wide signals (s ∷ outputs) (c ∷ expected) fits zero output checked in_outputs in_expected =
    let parts = four-parts (width_of c.value == width_at signals s) (width_of c.mask == width_at signals s)
    (bit_and (value_of c.value) (value_of c.mask) == value_of c.value) (expected_fit signals outputs expected) fits in
    ap (λ (x : Checked). width_of x.mask) (sym (Some-same in_expected)) ∙ equal-true (width_of c.mask) (width_at signals s) parts.0
    ∙ ap (width_at signals) (Some-same in_outputs)
mask-wide signals (s ∷ outputs) (c ∷ expected) fits (suc i) output checked in_outputs in_expected =
    let parts = four-parts (width_of c.value == width_at signals s) (width_of c.mask == width_at signals s)
    (bit_and (value_of c.value) (value_of c.mask) == value_of c.value) (expected_fit signals outputs expected) fits in
    mask-wide signals outputs expected parts.1 i output checked in_outputs in_expected

-- a bit that is checked is one of the word
mask-below : (mask : Bits) (b : ℕ) → bit_of mask b ≡ true → b < width_of mask
mask-below mask b is = at (cases_lt b (width_of mask))
  where
    absent : 0 == 1 ≡ true → ⊥
    absent same = cc

    at : (b < width_of mask) ⊎ (width_of mask ≤ b) → b < width_of mask
    at (inl low) = low
    at (inr past) = absurd (absent (ap (λ n. n == 1) (sym (bit_at_above (value_of mask) (width_of mask) b mask.in_range past)) ∙ is))

module _ (d : Design) (circuit : BitNet) (read : Reading) (is : IsCircuitOf d circuit read) (trace : Trace) (fits : IsTraceOf d trace)
    (freed : ℕ → Bool) (c : Choices) (wide : AreOfWidth d freed c) where
  -- the values of the circuit in a cycle
  abbrev value_at : ℕ → Literal → Bool
  value_at t l = value_in_cycle circuit trace freed (bits_of c) t l

  abbrev before : ℕ → ℕ → ℕ → Bool
  before t = state_before circuit trace freed (bits_of c) t

  -- the literals of the outputs are the bits of the outputs
  abbrev pub Shows : ℕ → Valuation → Type 0
  Shows t V = (i output b : ℕ) (word : List Literal) (l : Literal) → slice_get d.outputs.items i ≡ Some output
      → slice_get circuit.outputs i ≡ Some word → slice_get word b ≡ Some l → value_at t l ≡ V output b

  module _ (t : ℕ) (low : t < trace.cycles) (state V next : Valuation) (same : before t ≡ read state)
      (cycle : OneCycle d (samples_at d trace t) state (choice_at freed c t) V next) where
    -- what the circuit is given is what the design is
    cycle-value : (l : Literal)
        → bit_value (given trace freed (bits_of c) t (before t)) circuit.nodes l
        ≡ bit_value (given_cycle (samples_at d trace t) (read state) (choice_at freed c t)) circuit.nodes l
    cycle-value l =
        ap (λ s. bit_value (given trace freed (bits_of c) t s) circuit.nodes l) same
        ∙ ap (λ samples. bit_value (given_cycle samples (read state) (choice_at freed c t)) circuit.nodes l)
        (samples-same d trace t fits low)

    cycle-shows : Shows t V
    cycle-shows i output b word l in_design in_circuit in_word =
        cycle-value l
        ∙ is.values (samples_at d trace t) state (choice_at freed c t) V next cycle i output b word l in_design in_circuit in_word

    cycle-next : before (t + 1) ≡ read next
    cycle-next =
        ap before (add-one t)
        ∙ fun_ext (λ s. fun_ext (λ b.
        cycle-value (held circuit.next s b) ∙ is.next (samples_at d trace t) state (choice_at freed c t) V next cycle s b))

  -- along a run
  pub run-shows : (run : List Valuation) (t : ℕ) (state : Valuation) → IsRunFrom d trace freed c t state run → before t ≡ read state
      → (j : ℕ) (V : Valuation) → slice_get run j ≡ Some V → Shows (t + j) V
  run-shows [] t state is_run same j V there = cc
  run-shows (W ∷ rest) t state (low, (next, cycle, behind)) same j V there =
      let one : OneCycle d (samples_at d trace t) state (choice_at freed c t) W next =
      record { samples_fit = fits.samples t low; choice_fits = λ p place at free. wide t p place at free; cycle = cycle } in
      at j there (cycle-shows t low state W next same one)
      (λ k later. run-shows rest (t + 1) next behind (cycle-next t low state W next same one) k V later)
    where
      at : (j : ℕ) → slice_get (W ∷ rest) j ≡ Some V → Shows t W → ((k : ℕ) → slice_get rest k ≡ Some V → Shows (t + 1 + k) V)
          → Shows (t + j) V
      at zero there here later =
          let place : t ≡ t + 0 = omega arith in
          subst (λ n. Shows n V) place (subst (Shows t) (Some-same there) here)
      at (suc k) there here later =
          let place : t + 1 + k ≡ t + suc k = omega arith in subst (λ n. Shows n V) place (later k there)

  -- a cycle of the run is one of the trace, and each of the trace is one of the run
  pub run-long : (run : List Valuation) (t : ℕ) (state : Valuation) → IsRunFrom d trace freed c t state run → t + length run ≡ trace.cycles
  run-long [] t state is_run = omega (arith, is_run)
  run-long (W ∷ rest) t state (low, (next, cycle, behind)) =
      let later = run-long rest (t + 1) next behind in omega (arith, later)

  -- the outputs are right in the circuit exactly where they are in the design
  module _ (t : ℕ) (low : t < trace.cycles) (V : Valuation) (shows : Shows t V) where
    same-expected : expected_in (length circuit.outputs) trace t ≡ expected_at d trace t
    same-expected = ap (λ w. expected_in w trace t) is.outputs

    pub right-circuit : IsRight d (expected_at d trace t) V
        → AreRight (value_at t) circuit.outputs (expected_in (length circuit.outputs) trace t)
    right-circuit right i b word checked l in_words in_expected in_word asked =
        let within = slice_get_within circuit.outputs i word in_words in
        let (output, in_design) = slice_get-some d.outputs.items i (omega (arith, within, is.outputs)) in
        shows i output b word l in_design in_words in_word
        ∙ right i output checked b in_design (ap (λ es. slice_get es i) (sym same-expected) ∙ in_expected) asked

    pub right-design : AreRight (value_at t) circuit.outputs (expected_in (length circuit.outputs) trace t)
        → IsRight d (expected_at d trace t) V
    right-design right i output checked b in_design in_expected asked =
        let within = slice_get_within d.outputs.items i output in_design in
        let (word, in_words) = slice_get-some circuit.outputs i (omega (arith, within, is.outputs)) in
        let mask = mask-wide d.signals.items d.outputs.items (expected_at d trace t) (fits.expected t low) i output checked
        in_design in_expected in
        let below = mask-below checked.mask b asked in
        let (l, in_word) = slice_get-some word b (omega (arith, below, mask, is.wide i output word in_design in_words)) in
        sym (shows i output b word l in_design in_words in_word)
        ∙ right i b word checked l in_words (ap (λ es. slice_get es i) same-expected ∙ in_expected) in_word asked
