-- The samples put into words, from the last input to the first.
use Rattle.std.proofs.Common.{◌≡◌, ℕ, ◌+◌, ◌<◌, List, ◌∷◌, length, get_or, set, drop, map, add-one, ap, ◌∙◌, sym, refl, arith, subst}
use Rattle.std.specs.Prelude.{Bool, true, false, ◌==◌, ◌||◌, if◌then◌else◌}
use Rattle.std.specs.Option.{option_map_or}
use Rattle.std.specs.List.{list_any}
use Rattle.std.proofs.Math.Seq.{drop-length, drop-cons, map-set_same}
use Rattle.std.proofs.lemmas.Bool.{eqb-true}
use Rattle.std.proofs.lemmas.Option.{slice_get-get_or}
use Rattle.loc_base.specs.declared.bits.Bits.{Bits}
use Rattle.loc_base.specs.Bits.{width_of, bit_of}
use Rattle.loc_base.proofs.ShelfLists.{slice_get-set_same, slice_get-set_other, slice_get-at}
use Rattle.design_core.specs.declared.signal.Signal.{Signal}
use Rattle.design_core.specs.Valuation.{Valuation, width_at}
use Rattle.design_core.specs.Words.{valuation_of, AreWordsOf}
use Rattle.design_core.specs.TraceFits.{samples_fit}
use Rattle.design_core.specs.Cycle.{sampled}
use Rattle.plain_values.proofs.EvaluateWords.{word-width}
use Rattle.plain_sim.proofs.EvaluateSamples.{samples-length, sample-width, sample-within}
use Rattle.cycle_sim.proofs.Blending.{eq-swap}

-- whether an input is among some
abbrev among : List ℕ → ℕ → Bool
among inputs s = list_any (λ input. input == s) inputs

-- the samples from k on are in the words, and the other bits are as in V
abbrev pub Loaded : List ℕ → List Bits → Valuation → List Bits → ℕ → Type 0
Loaded inputs samples V words k =
    (s b : ℕ) → valuation_of words s b ≡ (if among (drop k inputs) s then sampled (drop k inputs) (drop k samples) s b else V s b)

pub loaded-none : (signals : List Signal) (inputs : List ℕ) (samples words : List Bits) → samples_fit signals inputs samples ≡ true
    → Loaded inputs samples (valuation_of words) words (length samples)
loaded-none signals inputs samples words h s b =
    sym (ap (λ xs. if among xs s then sampled xs (drop (length samples) samples) s b else valuation_of words s b)
    (ap (λ n. drop n inputs) (samples-length signals inputs samples h) ∙ drop-length inputs))

-- the word of an input has the width of its sample
pub loaded-width : (signals : List Signal) (inputs : List ℕ) (samples words : List Bits) (k input : ℕ) (old sample : Bits)
    → samples_fit signals inputs samples ≡ true → AreWordsOf signals words → k < length samples → input ≡ get_or inputs k 0
    → old ≡ get_or words input old → sample ≡ get_or samples k sample → width_of old ≡ width_of sample
loaded-width signals inputs samples words k input old sample h fit within which one other =
    let inside : input < length words =
    subst (λ n. n < length words) (sym which) (sample-within signals inputs samples words k h fit within) in
    word-width signals words input old fit (slice_get-at words input old inside one)
    ∙ ap (width_at signals) which
    ∙ sym (sample-width signals inputs samples k sample h within other)

pub loaded-next : (signals : List Signal) (inputs : List ℕ) (samples words : List Bits) (V : Valuation) (k : ℕ)
    (sample : Bits) → samples_fit signals inputs samples ≡ true
    → AreWordsOf signals words → k < length samples → sample ≡ get_or samples k sample → Loaded inputs samples V words (k + 1)
    → AreWordsOf signals (set words (get_or inputs k 0) sample) × Loaded inputs samples V (set words (get_or inputs k 0) sample) k
loaded-next signals inputs samples words V k sample h fit within is before = (record { widths = widths }, λ s b. at s b (input == s) refl)
  where
    input : ℕ
    input = get_or inputs k 0

    inside : input < length words
    inside = sample-within signals inputs samples words k h fit within

    widths : map width_of (set words input sample) ≡ map (λ x. x.width) signals
    widths =
        map-set_same width_of words input sample sample
        (sample-width signals inputs samples k sample h within is ∙ sym
        (word-width signals words input (get_or words input sample) fit (slice_get-get_or words input sample inside)))
        ∙ fit.widths

    below : k < length inputs
    below = omega (arith, within, samples-length signals inputs samples h)

    rest_inputs : List ℕ
    rest_inputs = drop (k + 1) inputs

    rest_samples : List Bits
    rest_samples = drop (k + 1) samples

    inputs_are : drop k inputs ≡ input ∷ rest_inputs
    inputs_are = drop-cons inputs k 0 below ∙ ap (λ n. input ∷ drop n inputs) (sym (add-one k))

    samples_are : drop k samples ≡ sample ∷ rest_samples
    samples_are =
        drop-cons samples k sample within ∙ ap (λ n. get_or samples k sample ∷ drop n samples) (sym (add-one k))
        ∙ ap (λ x. x ∷ rest_samples) (sym is)

    first : (s b : ℕ) → (if among (drop k inputs) s then sampled (drop k inputs) (drop k samples) s b else V s b)
        ≡ (if input == s || among rest_inputs s then
        (if input == s then bit_of sample b else sampled rest_inputs rest_samples s b) else V s b)
    first s b =
        ap (λ xs. if among xs s then sampled xs (drop k samples) s b else V s b) inputs_are
        ∙ ap (λ ys. if among (input ∷ rest_inputs) s then sampled (input ∷ rest_inputs) ys s b else V s b) samples_are

    at : (s b : ℕ) (t : Bool) → (input == s) ≡ t
        → valuation_of (set words input sample) s b
        ≡ (if among (drop k inputs) s then sampled (drop k inputs) (drop k samples) s b else V s b)
    at s b true e =
        ap (λ n. valuation_of (set words input sample) n b) (sym (eqb-true input s e))
        ∙ ap (λ o. option_map_or (λ x. bit_of x b) o false) (slice_get-set_same words input sample inside)
        ∙ sym (first s b ∙ ap (λ t. if t || among rest_inputs s then
        (if t then bit_of sample b else sampled rest_inputs rest_samples s b) else V s b) e)
    at s b false e =
        ap (λ o. option_map_or (λ x. bit_of x b) o false) (slice_get-set_other words input s sample (λ same. eq-swap input s e same))
        ∙ before s b
        ∙ sym (first s b ∙ ap (λ t. if t || among rest_inputs s then
        (if t then bit_of sample b else sampled rest_inputs rest_samples s b) else V s b) e)
