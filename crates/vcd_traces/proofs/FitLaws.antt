-- What a text holds of a design is a trace of it.
use Rattle.std.proofs.Common.{◌≡◌, ℕ, zero, suc, ◌+◌, ◌-◌, ◌*◌, ◌<◌, ◌==◌, true, List, [], ◌∷◌, ◌++◌, length, map, take, drop, get_or, refl, sym, ◌∙◌, ap, arith, bit_and, Option, Result, Ok, Err}
use Rattle.std.specs.List.{flat_map, slice_range}
use Rattle.std.specs.Result.{IfOk}
use Rattle.std.proofs.Math.Seq.{take-append_seam, drop-append-add}
use Rattle.std.proofs.lemmas.Bool.{and_from}
use Rattle.std.proofs.lemmas.Grind.{common_steps}
use Rattle.std.proofs.lemmas.List.{length-map, take-map, drop-map, length-append}
use Rattle.std.proofs.lemmas.Nat.{and_assoc}
use Rattle.std.specs.Int.Bits.{and_self}
use Rattle.loc_base.specs.declared.bits.Bits.{Bits}
use Rattle.loc_base.specs.Bits.{width_of, value_of}
use Rattle.design_core.specs.declared.signal.Signal.{Signal}
use Rattle.design_core.specs.declared.design.Design.{Design}
use Rattle.design_core.specs.declared.trace.Checked.{Checked}
use Rattle.design_core.specs.declared.trace.Trace.{Trace}
use Rattle.design_core.specs.Valuation.{width_at}
use Rattle.design_core.specs.Run.{samples_at, expected_at}
use Rattle.design_core.specs.TraceFits.{samples_fit, expected_fit, IsTraceOf}
use Rattle.vcd_reading.specs.Header.{Header}
use Rattle.vcd_reading.specs.Scopes.{Sought, port_at}
use Rattle.vcd_reading.specs.Events.{Event}
use Rattle.vcd_reading.specs.declared.error.VcdErr.{VcdErr}
use Rattle.vcd_traces.specs.Answers.{Answers}
use Rattle.vcd_traces.specs.Samples.{Manner, Watch, Watches, watch_of, watches_of, cycles_of, sample, known_bits, AreSamples, HasSamples}

-- ---- blocks of one length, a block a stamp
blocks : {X : Type 0} (F : ℕ → List X) (n : ℕ) (times : List ℕ) → ((time : ℕ) → length (F time) ≡ n) → length (flat_map F times) ≡ length times * n
blocks F n [] each = omega arith
blocks F n (time ∷ times) each =
    length-append (F time) (flat_map F times) ∙ grown n (length times) (length (F time)) (length (flat_map F times)) (each time) (blocks F n times each)
  where
    grown : (n m a b : ℕ) → a ≡ n → b ≡ m * n → a + b ≡ suc m * n
    grown n m a b is rest = grind (arith)

block_at : {X : Type 0} (F : ℕ → List X) (n t : ℕ) (times : List ℕ) (from size : ℕ) → ((time : ℕ) → length (F time) ≡ n) → t < length times
    → from ≡ t * n → size ≡ n → take size (drop from (flat_map F times)) ≡ F (get_or times t 0)
block_at F n t [] from size each within begin is = absurd (omega (arith, within))
block_at F n zero (time ∷ times) from size each within begin is =
    let none : from ≡ 0 = omega (arith, begin) in
    let rest = flat_map F times in
    ap (λ k. take size (drop k (F time ++ rest))) none ∙ ap (λ k. take k (F time ++ rest)) (is ∙ sym (each time)) ∙ take-append_seam (F time) rest
block_at F n (suc t) (time ∷ times) from size each within begin is =
    let rest = flat_map F times in
    let on : from ≡ length (F time) + t * n = later from t n (length (F time)) begin (each time) in
    ap (λ k. take size (drop k (F time ++ rest))) on ∙ ap (take size) (drop-append-add (F time) rest (t * n))
    ∙ block_at F n t times (t * n) size each (omega (arith, within)) refl is
  where
    later : (from t n a : ℕ) → from ≡ suc t * n → a ≡ n → from ≡ a + t * n
    later from t n a begin is = grind (arith)

-- a field of the entries of a cycle
cycle_field : {X : Type 0} (f : X → ℕ) (xs : List X) (F : ℕ → List ℕ) (n t : ℕ) (times : List ℕ) → ((time : ℕ) → length (F time) ≡ n) → t < length times
    → map f xs ≡ flat_map F times → map f (slice_range xs (t * n) (t * n + n)) ≡ F (get_or times t 0)
cycle_field f xs F n t times each within are =
    let size : t * n + n - t * n ≡ n = one n (t * n) in
    sym (take-map f (t * n + n - t * n) (drop (t * n) xs)) ∙ ap (take (t * n + n - t * n)) (sym (drop-map f (t * n) xs))
    ∙ ap (λ l. take (t * n + n - t * n) (drop (t * n) l)) are ∙ block_at F n t times (t * n) (t * n + n - t * n) each within refl size
  where
    one : (n m : ℕ) → m + n - m ≡ n
    one n m = omega arith

-- ---- words of the widths of signals
same_test : (m n : ℕ) → m ≡ n → (m == n) ≡ true
same_test m n same = grind (arith, common_steps)

fit_samples : (signals : List Signal) (numbers : List ℕ) (samples : List Bits) → map width_of samples ≡ map (width_at signals) numbers
    → samples_fit signals numbers samples ≡ true
fit_samples signals [] [] same = refl
fit_samples signals [] (sample ∷ samples) same = cc
fit_samples signals (s ∷ numbers) [] same = cc
fit_samples signals (s ∷ numbers) (sample ∷ samples) same =
    let first : width_of sample ≡ width_at signals s = cc in
    let rest : map width_of samples ≡ map (width_at signals) numbers = cc in
    and_from _ _ (same_test (width_of sample) (width_at signals s) first) (fit_samples signals numbers samples rest)

abbrev value_width : Checked → ℕ
value_width c = width_of c.value

abbrev mask_width : Checked → ℕ
mask_width c = width_of c.mask

abbrev value_is : Checked → ℕ
value_is c = value_of c.value

abbrev mask_is : Checked → ℕ
mask_is c = value_of c.mask

fit_expected : (signals : List Signal) (numbers : List ℕ) (expected : List Checked) (watches : List Watch) (value mask : Watch → ℕ)
    → ((w : Watch) → bit_and (value w) (mask w) ≡ value w) → map value_width expected ≡ map (width_at signals) numbers
    → map mask_width expected ≡ map (width_at signals) numbers → map value_is expected ≡ map value watches → map mask_is expected ≡ map mask watches
    → expected_fit signals numbers expected ≡ true
fit_expected signals [] [] watches value mask within one two three four = refl
fit_expected signals [] (c ∷ expected) watches value mask within one two three four = cc
fit_expected signals (s ∷ numbers) [] watches value mask within one two three four = cc
fit_expected signals (s ∷ numbers) (c ∷ expected) [] value mask within one two three four = cc
fit_expected signals (s ∷ numbers) (c ∷ expected) (w ∷ watches) value mask within one two three four =
    let a : value_width c ≡ width_at signals s = cc in
    let b : mask_width c ≡ width_at signals s = cc in
    let v : value_is c ≡ value w = cc in
    let m : mask_is c ≡ mask w = cc in
    let inside : bit_and (value_is c) (mask_is c) ≡ value_is c = ap (λ k. bit_and k (mask_is c)) v ∙ ap (bit_and (value w)) m ∙ within w ∙ sym v in
    let rest_a : map value_width expected ≡ map (width_at signals) numbers = cc in
    let rest_b : map mask_width expected ≡ map (width_at signals) numbers = cc in
    let rest_v : map value_is expected ≡ map value watches = cc in
    let rest_m : map mask_is expected ≡ map mask watches = cc in
    and_from _ _ (and_from _ _ (and_from _ _ (same_test _ _ a) (same_test _ _ b)) (same_test _ _ inside))
    (fit_expected signals numbers expected watches value mask within rest_a rest_b rest_v rest_m)

-- ---- the trace
widths_of : (d : Design) (h : Header) (sought : Sought) (numbers : List ℕ)
    → map (λ (w : Watch). w.width) (map (watch_of h sought) (map (port_at d) numbers)) ≡ map (width_at d.signals.items) numbers
widths_of d h sought [] = refl
widths_of d h sought (s ∷ numbers) = ap (λ l. width_at d.signals.items s ∷ l) (widths_of d h sought numbers)

kept_within : (one known : ℕ) → bit_and (bit_and one known) known ≡ bit_and one known
kept_within one known = and_assoc known one known ∙ ap (bit_and one) (and_self known)

-- what stands in a cycle, field by field
abbrev widths : List Watch → List ℕ
widths watches = map (λ (w : Watch). w.width) watches

abbrev known_at : Watches → List Event → ℕ → Watch → ℕ
known_at w events time x = known_bits x.width (sample w.clock events time x)

abbrev value_at : Watches → List Event → ℕ → Watch → ℕ
value_at w events time x = bit_and (sample w.clock events time x).ones (known_at w events time x)

inputs_fit : (d : Design) (by : Manner) (h : Header) (events : List Event) (times : List ℕ) (trace : Trace)
    → AreSamples (watches_of d by h) events times trace → (t : ℕ) → t < length times → length (watches_of d by h).inputs ≡ length d.inputs.items
    → samples_fit d.signals.items d.inputs.items (samples_at d trace t) ≡ true
inputs_fit d by h events times trace are t below many =
    let w = watches_of d by h in
    fit_samples d.signals.items d.inputs.items (samples_at d trace t)
    (cycle_field width_of trace.inputs.items (λ time. widths w.inputs) (length d.inputs.items) t times (λ time. length-map w.inputs _ ∙ many) below
    are.input_widths
    ∙ widths_of d h _ d.inputs.items)

outputs_fit : (d : Design) (by : Manner) (h : Header) (events : List Event) (times : List ℕ) (trace : Trace)
    → AreSamples (watches_of d by h) events times trace → (t : ℕ) → t < length times → length (watches_of d by h).outputs ≡ length d.outputs.items
    → expected_fit d.signals.items d.outputs.items (expected_at d trace t) ≡ true
outputs_fit d by h events times trace are t below many =
    let w = watches_of d by h in
    let m = length d.outputs.items in
    let time = get_or times t 0 in
    let each : (f : Watch → ℕ) → length (map f w.outputs) ≡ m = λ f. length-map w.outputs f ∙ many in
    fit_expected d.signals.items d.outputs.items (expected_at d trace t) w.outputs (value_at w events time) (known_at w events time)
    (λ x. kept_within (sample w.clock events time x).ones (known_at w events time x))
    (cycle_field value_width trace.expected.items (λ u. widths w.outputs) m t times (λ u. each (λ (x : Watch). x.width)) below are.value_widths
    ∙ widths_of d h _ d.outputs.items)
    (cycle_field mask_width trace.expected.items (λ u. widths w.outputs) m t times (λ u. each (λ (x : Watch). x.width)) below are.mask_widths
    ∙ widths_of d h _ d.outputs.items)
    (cycle_field value_is trace.expected.items (λ u. map (value_at w events u) w.outputs) m t times (λ u. each (value_at w events u)) below are.values)
    (cycle_field mask_is trace.expected.items (λ u. map (known_at w events u) w.outputs) m t times (λ u. each (known_at w events u)) below are.masks)

pub trace_fits : (d : Design) (by : Manner) (h : Header) (events : List Event) (times : List ℕ) (trace : Trace)
    → AreSamples (watches_of d by h) events times trace → IsTraceOf d trace
trace_fits d by h events times trace are =
    let w = watches_of d by h in
    let n = length d.inputs.items in
    let m = length d.outputs.items in
    let inputs : length w.inputs ≡ n = length-map (map (port_at d) d.inputs.items) _ ∙ length-map d.inputs.items (port_at d) in
    let outputs : length w.outputs ≡ m = length-map (map (port_at d) d.outputs.items) _ ∙ length-map d.outputs.items (port_at d) in
    record {
      sample_count = sym (length-map trace.inputs.items width_of) ∙ ap length are.input_widths
          ∙ blocks (λ time. widths w.inputs) n times (λ time. length-map w.inputs _ ∙ inputs) ∙ ap (λ k. k * n) (sym are.cycles);
      expected_count = sym (length-map trace.expected.items value_width) ∙ ap length are.value_widths
          ∙ blocks (λ time. widths w.outputs) m times (λ time. length-map w.outputs _ ∙ outputs) ∙ ap (λ k. k * m) (sym are.cycles);
      samples = λ t within. inputs_fit d by h events times trace are t (omega (arith, within, are.cycles)) inputs;
      expected = λ t within. outputs_fit d by h events times trace are t (omega (arith, within, are.cycles)) outputs;
    }

-- a text's trace is one of the design
pub held_fits : (text : List ℕ) (d : Design) (by : Manner) (trace : Trace) → HasSamples text d by trace → IsTraceOf d trace
held_fits text d by trace held = trace_fits d by held.past.header held.past.events (cycles_of d by held.past) trace held.samples

-- so what is answered of it is one
pub ok_fits : (text : List ℕ) (d : Design) (by : Manner) (result : Result Trace VcdErr) → Answers text d by result
    → IfOk result (λ trace. IsTraceOf d trace)
ok_fits text d by (Ok trace) held = held_fits text d by trace held
ok_fits text d by (Err fault) answers = tt
