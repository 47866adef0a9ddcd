-- The trace that is sampled of a wave is the one that it was written from, and nothing refuses it.
use Rattle.std.proofs.Common.{◌≡◌, ℕ, zero, suc, arith, ◌+◌, ◌-◌, ◌*◌, ◌≤◌, ◌<◌, ◌^◌, Bool, Some, is_some, List, [], ◌∷◌, ◌++◌, length, map, take, drop, refl, sym, ◌∙◌, ap, ap₂, subst, bit_and}
use Rattle.std.specs.Prelude.{slice_get}
use Rattle.std.specs.List.{flat_map, slice_range}
use Rattle.std.proofs.lemmas.Grind.{flat_map-append}
use Rattle.std.proofs.lemmas.List.{length-append, map-append, append-nil, take_all}
use Rattle.loc_base.specs.declared.bits.Bits.{Bits}
use Rattle.loc_base.specs.Bits.{width_of, value_of, value_of-range}
use Rattle.design_core.specs.declared.trace.Checked.{Checked}
use Rattle.design_core.specs.declared.trace.Trace.{Trace}
use Rattle.design_core.specs.Valuation.{width_at}
use Rattle.design_core.specs.Run.{samples_at, expected_at}
use Rattle.vcd_words.specs.declared.level.Level.{Level}
use Rattle.vcd_reading.specs.Scopes.{port_at}
use Rattle.vcd_traces.specs.Samples.{Watch, sample, known_bits, AreSamples, watch_of}
use Rattle.vcd_waves.proofs.MomentLevels.{moment_at, sampled}
use Rattle.vcd_waves.proofs.Scenes.{Scene, sought, header, IsScene, Fits, sample_width, expected_width, samples_many, expected_many}
use Rattle.vcd_waves.proofs.Sampled.{watches, watch, events, sample_at, input_sample, output_sample}

-- the rows of a scene are those of a trace
pub record IsOf (s : Scene) (trace : Trace) : Type 0 where
  pub cycles : trace.cycles ≡ s.cycles
  pub sample_count : length trace.inputs.items ≡ s.cycles * length s.design.inputs.items
  pub expected_count : length trace.expected.items ≡ s.cycles * length s.design.outputs.items
  pub samples : (t : ℕ) → (s.rows t).samples ≡ samples_at s.design trace t
  pub expected : (t : ℕ) → (s.rows t).expected ≡ expected_at s.design trace t

-- ---- a field of all entries, cycle by cycle
take_none : {X : Type 0} (n : ℕ) → take {A = X} n [] ≡ []
take_none zero = refl
take_none (suc n) = refl

take_on : {X : Type 0} (n m : ℕ) (xs : List X) → take (n + m) xs ≡ take n xs ++ take m (drop n xs)
take_on zero m xs = let none : 0 + m ≡ m = omega arith in ap (λ k. take k xs) none
take_on (suc n) m [] = take_none (suc n + m) ∙ sym (take_none m)
take_on (suc n) m (x ∷ xs) =
    let one : suc n + m ≡ suc (n + m) = omega arith in
    ap (λ k. take k (x ∷ xs)) one ∙ ap (λ l. x ∷ l) (take_on n m xs)

field : {X : Type 0} (f : X → ℕ) (items : List X) (n : ℕ) (F : ℕ → List ℕ) (clocked : Bool) (t : ℕ)
    → ((u : ℕ) → u < t → map f (slice_range items (u * n) (u * n + n)) ≡ F (moment_at clocked u))
    → map f (take (t * n) items) ≡ flat_map F (sampled clocked t)
field f items n F clocked zero each = let none : 0 * n ≡ 0 = omega arith in ap (λ k. map f (take k items)) none
field f items n F clocked (suc t) each =
    let more : suc t * n ≡ t * n + n = next t n in
    let size : n ≡ t * n + n - t * n = rest (t * n) n in
    ap (λ k. map f (take k items)) more ∙ ap (map f) (take_on (t * n) n items)
    ∙ map-append f (take (t * n) items) (take n (drop (t * n) items))
    ∙ ap (λ k. map f (take (t * n) items) ++ map f (take k (drop (t * n) items))) size
    ∙ ap₂ (λ one other. one ++ other) (field f items n F clocked t (λ u below. each u (omega (arith, below))))
    (each t (omega arith))
    ∙ sym (flat_map-append F (sampled clocked t) (moment_at clocked t ∷ [])
    ∙ ap (λ l. flat_map F (sampled clocked t) ++ l) (append-nil (F (moment_at clocked t))))
  where
    next : (t n : ℕ) → suc t * n ≡ t * n + n
    next t n = grind (arith)

    rest : (m n : ℕ) → n ≡ m + n - m
    rest m n = omega arith

whole_field : {X : Type 0} (f : X → ℕ) (items : List X) (n : ℕ) (F : ℕ → List ℕ) (clocked : Bool) (cycles : ℕ)
    → length items ≡ cycles * n
    → ((u : ℕ) → u < cycles → map f (slice_range items (u * n) (u * n + n)) ≡ F (moment_at clocked u))
    → map f items ≡ flat_map F (sampled clocked cycles)
whole_field f items n F clocked cycles many each =
    ap (map f) (sym (take_all (cycles * n) items (at_most (length items) (cycles * n) many)))
    ∙ field f items n F clocked cycles each
  where
    at_most : (a b : ℕ) → a ≡ b → a ≤ b
    at_most a b same = omega (arith, same)

-- the entries of a row, one for each port
row_field : {X P W : Type 0} (f : X → ℕ) (g : W → ℕ) (two : P → W) (one : ℕ → P) (numbers : List ℕ) (xs : List X)
    → length xs ≡ length numbers
    → ((i n : ℕ) (x : X) → slice_get numbers i ≡ Some n → slice_get xs i ≡ Some x → f x ≡ g (two (one n)))
    → map f xs ≡ map g (map two (map one numbers))
row_field f g two one [] [] many each = refl
row_field f g two one [] (x ∷ xs) many each = absurd (omega (arith, many))
row_field f g two one (n ∷ numbers) [] many each = absurd (omega (arith, many))
row_field f g two one (n ∷ numbers) (x ∷ xs) many each =
    ap₂ (λ a l. a ∷ l) (each 0 n x refl refl)
    (row_field f g two one numbers xs (omega (arith, many)) (λ i m y at shown. each (suc i) m y at shown))

-- ---- the fields of inputs
input_field : (s : Scene) (is : IsScene s) (trace : Trace) → IsOf s trace → (f : Bits → ℕ) (G : ℕ → Watch → ℕ)
    → ((t i n : ℕ) (bits : Bits) → t < s.cycles → slice_get s.design.inputs.items i ≡ Some n
    → slice_get (s.rows t).samples i ≡ Some bits
    → f bits ≡ G (moment_at (is_some s.clock) t) (watch s n))
    → map f trace.inputs.items ≡ flat_map (λ time. map (G time) (watches s).inputs) (sampled (is_some s.clock) s.cycles)
input_field s is trace of f G each =
    whole_field f trace.inputs.items (length s.design.inputs.items) (λ time. map (G time) (watches s).inputs)
    (is_some s.clock) s.cycles of.sample_count
    (λ t within. ap (map f) (sym (of.samples t))
    ∙ row_field f (G (moment_at (is_some s.clock) t)) (watch_of (header s) (sought s))
    (port_at s.design) s.design.inputs.items (s.rows t).samples
    (samples_many s.design.signals.items s.design.inputs.items (s.rows t).samples (is.samples t within))
    (λ i n bits number shown. each t i n bits within number shown))

-- and those of outputs
output_field : (s : Scene) (is : IsScene s) (trace : Trace) → IsOf s trace → (f : Checked → ℕ) (G : ℕ → Watch → ℕ)
    → ((t i n : ℕ) (c : Checked) → t < s.cycles → slice_get s.design.outputs.items i ≡ Some n
    → slice_get (s.rows t).expected i ≡ Some c
    → f c ≡ G (moment_at (is_some s.clock) t) (watch s n))
    → map f trace.expected.items ≡ flat_map (λ time. map (G time) (watches s).outputs)
    (sampled (is_some s.clock) s.cycles)
output_field s is trace of f G each =
    whole_field f trace.expected.items (length s.design.outputs.items) (λ time. map (G time) (watches s).outputs)
    (is_some s.clock) s.cycles of.expected_count
    (λ t within. ap (map f) (sym (of.expected t))
    ∙ row_field f (G (moment_at (is_some s.clock) t)) (watch_of (header s) (sought s))
    (port_at s.design) s.design.outputs.items (s.rows t).expected
    (expected_many s.design.signals.items s.design.outputs.items (s.rows t).expected (is.expected t within))
    (λ i n c number shown. each t i n c within number shown))

-- ---- what is known of an output
abbrev known_at : Scene → ℕ → ℕ → ℕ
known_at s t n = known_bits (width_at s.design.signals.items n) (sample_at s t n)

fits_at : (s : Scene) (is : IsScene s) (t i n : ℕ) (c : Checked) → t < s.cycles
    → slice_get s.design.outputs.items i ≡ Some n
    → slice_get (s.rows t).expected i ≡ Some c → Fits s.design.signals.items n c
fits_at s is t i n c within number shown =
    expected_width s.design.signals.items s.design.outputs.items (s.rows t).expected i n c
    (is.expected t within) number shown

known_mask : (s : Scene) (is : IsScene s) (t i n : ℕ) (c : Checked) → t < s.cycles
    → slice_get s.design.outputs.items i ≡ Some n
    → slice_get (s.rows t).expected i ≡ Some c → known_at s t n ≡ value_of c.mask
known_mask s is t i n c within number shown =
    let fits = fits_at s is t i n c within number shown in
    let below : value_of c.mask < 2 ^ width_at s.design.signals.items n = subst
    (λ w. value_of c.mask < 2 ^ w) fits.mask (value_of-range c.mask) in
    ap (λ (l : Level). 2 ^ width_at s.design.signals.items n - 1 - l.unknowns)
    (output_sample s is t i n c within number shown)
    ∙ back (2 ^ width_at s.design.signals.items n) (value_of c.mask) below
  where
    back : (power mask : ℕ) → mask < power → power - 1 - (power - 1 - mask) ≡ mask
    back power mask below = omega (arith, below)

known_value : (s : Scene) (is : IsScene s) (t i n : ℕ) (c : Checked) → t < s.cycles
    → slice_get s.design.outputs.items i ≡ Some n
    → slice_get (s.rows t).expected i ≡ Some c → bit_and (sample_at s t n).ones (known_at s t n) ≡ value_of c.value
known_value s is t i n c within number shown =
    let fits = fits_at s is t i n c within number shown in
    ap (λ (l : Level). bit_and l.ones (known_at s t n)) (output_sample s is t i n c within number shown)
    ∙ ap (bit_and (value_of c.value)) (known_mask s is t i n c within number shown) ∙ fits.within

-- ---- the trace
pub sampled_many : (clocked : Bool) (t : ℕ) → length (sampled clocked t) ≡ t
sampled_many clocked zero = refl
sampled_many clocked (suc t) =
    let rest = sampled_many clocked t in
    let both = length-append (sampled clocked t) (moment_at clocked t ∷ []) in
    omega (arith, rest, both)

abbrev at_time : Scene → ℕ → Watch → Level
at_time s time w = sample (watches s).clock (events s) time w

pub sampled_trace : (s : Scene) → IsScene s → (trace : Trace) → IsOf s trace
    → AreSamples (watches s) (events s) (sampled (is_some s.clock) s.cycles) trace
sampled_trace s is trace of = record {
  cycles = of.cycles ∙ sym (sampled_many (is_some s.clock) s.cycles);
  inputs = input_field s is trace of value_of (λ time w. (at_time s time w).ones)
      (λ t i n bits within number shown. sym
      (ap (λ (l : Level). l.ones) (input_sample s is t i n bits within number shown)));
  input_widths = input_field s is trace of width_of (λ time w. w.width)
      (λ t i n bits within number shown.
      sample_width s.design.signals.items s.design.inputs.items (s.rows t).samples i n bits
      (is.samples t within) number shown);
  masks = output_field s is trace of (λ c. value_of c.mask) (λ time w. known_bits w.width (at_time s time w))
      (λ t i n c within number shown. sym (known_mask s is t i n c within number shown));
  mask_widths = output_field s is trace of (λ c. width_of c.mask) (λ time w. w.width)
      (λ t i n c within number shown. (fits_at s is t i n c within number shown).mask);
  values = output_field s is trace of (λ c. value_of c.value)
      (λ time w. bit_and (at_time s time w).ones (known_bits w.width (at_time s time w)))
      (λ t i n c within number shown. sym (known_value s is t i n c within number shown));
  value_widths = output_field s is trace of (λ c. width_of c.value) (λ time w. w.width)
      (λ t i n c within number shown. (fits_at s is t i n c within number shown).value);
}
