-- The samples put into words, from the last input to the first.
use Rattle.std.proofs.Common.{◌≡◌, ◌≢◌, ℕ, zero, suc, ◌+◌, ◌<◌, ◌≤◌, List, [], ◌∷◌, length, get_or, set, drop, map, add-one, ap, ◌∙◌, sym, refl, arith}
use Rattle.std.specs.Prelude.{Bool, true, false, ◌==◌, if◌then◌else◌}
use Rattle.std.specs.Option.{option_map_or}
use Rattle.std.proofs.Math.Path.{fun_ext}
use Rattle.std.proofs.Math.Seq.{drop-length, drop-cons, map-set_same}
use Rattle.std.proofs.lemmas.Bool.{and_parts, eqb-true}
use Rattle.std.proofs.lemmas.Bool.Decides.{nat_tests}
use Rattle.std.proofs.lemmas.Option.{slice_get-get_or}
use Rattle.loc_base.specs.declared.bits.Bits.{Bits}
use Rattle.loc_base.specs.Bits.{width_of, bit_of}
use Rattle.design_core.specs.declared.signal.Signal.{Signal}
use Rattle.design_core.specs.Valuation.{Valuation, width_at}
use Rattle.design_core.specs.Words.{valuation_of, AreWordsOf}
use Rattle.design_core.specs.Constant.{zeros}
use Rattle.design_core.specs.TraceFits.{samples_fit}
use Rattle.design_core.specs.Cycle.{sampled}
use Rattle.plain_values.proofs.EvaluateWords.{word-width, words-length}
use Rattle.loc_base.proofs.ShelfLists.{slice_get-set_same, slice_get-set_other}

-- an element that is there is the same whatever stands for one that is not
pub get_or-default : {X : Type 0} (xs : List X) (i : ℕ) (a b : X) → i < length xs → get_or xs i a ≡ get_or xs i b
get_or-default [] i a b h = absurd (omega (arith, h))
get_or-default (x ∷ xs) zero a b h = refl
get_or-default (x ∷ xs) (suc i) a b h = get_or-default xs i a b (omega (arith, h))

pub samples-length : (signals : List Signal) (inputs : List ℕ) (samples : List Bits) → samples_fit signals inputs samples ≡ true → length samples ≡ length inputs
samples-length signals [] [] h = refl
samples-length signals [] (sample ∷ samples) h = cc
samples-length signals (s ∷ inputs) [] h = cc
samples-length signals (s ∷ inputs) (sample ∷ samples) h =
    ap suc (samples-length signals inputs samples (and_parts (width_of sample == width_at signals s) (samples_fit signals inputs samples) h).1)

-- a sample has the width of its input
pub sample-width : (signals : List Signal) (inputs : List ℕ) (samples : List Bits) (i : ℕ) (sample : Bits) → samples_fit signals inputs samples ≡ true → i < length samples
    → sample ≡ get_or samples i sample → width_of sample ≡ width_at signals (get_or inputs i 0)
sample-width signals [] [] i sample h within is = absurd (omega (arith, within))
sample-width signals [] (x ∷ samples) i sample h within is = cc
sample-width signals (s ∷ inputs) [] i sample h within is = cc
sample-width signals (s ∷ inputs) (x ∷ samples) zero sample h within is =
    ap width_of is ∙ eqb-true (width_of x) (width_at signals s) (and_parts (width_of x == width_at signals s) (samples_fit signals inputs samples) h).0
sample-width signals (s ∷ inputs) (x ∷ samples) (suc i) sample h within is =
    sample-width signals inputs samples i sample (and_parts (width_of x == width_at signals s) (samples_fit signals inputs samples) h).1 (omega (arith, within)) is

-- what has a width is a signal
pub width-signal : (signals : List Signal) (s : ℕ) → 1 ≤ width_at signals s → s < length signals
width-signal [] s h = absurd (omega (arith, h))
width-signal (x ∷ signals) zero h = omega arith
width-signal (x ∷ signals) (suc s) h = omega (arith, width-signal signals s h)

pub sample-within : (signals : List Signal) (inputs : List ℕ) (samples words : List Bits) (i : ℕ) → samples_fit signals inputs samples ≡ true → AreWordsOf signals words
    → i < length samples → get_or inputs i 0 < length words
sample-within signals inputs samples words i h fit within = at samples h within
  where
    at : (samples : List Bits) → samples_fit signals inputs samples ≡ true → i < length samples → get_or inputs i 0 < length words
    at [] h within = absurd (omega (arith, within))
    at (x ∷ samples) h within =
        let sample : Bits = get_or (x ∷ samples) i x in
        let again : sample ≡ get_or (x ∷ samples) i sample = get_or-default (x ∷ samples) i x sample within in
        let width : width_of sample ≡ width_at signals (get_or inputs i 0) = sample-width signals inputs (x ∷ samples) i sample h within again in
        omega (arith, words-length signals words fit, width-signal signals (get_or inputs i 0) (omega (arith, sample.at_least_one, width)))

pub nothing-loaded : (inputs : List ℕ) (samples : List Bits) (k : ℕ) → k ≡ length inputs → zeros ≡ sampled (drop k inputs) (drop k samples)
nothing-loaded inputs samples k e = fun_ext (λ s. fun_ext (λ b. sym (ap (λ xs. sampled xs (drop k samples) s b) (ap (λ n. drop n inputs) e ∙ drop-length inputs))))

-- one more sample put into the words
pub loaded-next : (signals : List Signal) (inputs : List ℕ) (samples words : List Bits) (k : ℕ) (sample : Bits) → samples_fit signals inputs samples ≡ true
    → AreWordsOf signals words → k < length samples → sample ≡ get_or samples k sample
    → valuation_of words ≡ sampled (drop (k + 1) inputs) (drop (k + 1) samples)
    → AreWordsOf signals (set words (get_or inputs k 0) sample) × (valuation_of (set words (get_or inputs k 0) sample) ≡ sampled (drop k inputs) (drop k samples))
loaded-next signals inputs samples words k sample h fit within is before = (
  record { widths = widths },
  fun_ext (λ s. fun_ext (λ b. at s b (input == s) refl)),
)
  where
    input : ℕ
    input = get_or inputs k 0

    inside : input < length words
    inside = sample-within signals inputs samples words k h fit within

    length-is : length samples ≡ length inputs
    length-is = samples-length signals inputs samples h

    widths : map width_of (set words input sample) ≡ map (λ x. x.width) signals
    widths =
        map-set_same width_of words input sample sample
        (sample-width signals inputs samples k sample h within is ∙ sym (word-width signals words input (get_or words input sample) fit (slice_get-get_or words input sample inside)))
        ∙ fit.widths

    first : sampled (drop k inputs) (drop k samples) ≡ sampled (input ∷ drop (k + 1) inputs) (sample ∷ drop (k + 1) samples)
    first =
        ap (λ xs. sampled xs (drop k samples)) (drop-cons inputs k 0 (omega (arith, within, length-is)) ∙ ap (λ n. input ∷ drop n inputs) (sym (add-one k)))
        ∙ ap (sampled (input ∷ drop (k + 1) inputs))
        (drop-cons samples k sample within ∙ ap (λ n. get_or samples k sample ∷ drop n samples) (sym (add-one k)) ∙ ap (λ x. x ∷ drop (k + 1) samples) (sym is))

    other : (s : ℕ) → (input == s) ≡ false → s ≢ input
    other s e = grind (arith, nat_tests)

    at : (s b : ℕ) (t : Bool) → (input == s) ≡ t → valuation_of (set words input sample) s b ≡ sampled (drop k inputs) (drop k samples) s b
    at s b true e =
        ap (λ n. valuation_of (set words input sample) n b) (sym (eqb-true input s e))
        ∙ ap (λ o. option_map_or (λ x. bit_of x b) o false) (slice_get-set_same words input sample inside)
        ∙ sym (ap (λ (V : Valuation). V s b) first ∙ ap (λ t. if t then bit_of sample b else sampled (drop (k + 1) inputs) (drop (k + 1) samples) s b) e)
    at s b false e =
        ap (λ o. option_map_or (λ x. bit_of x b) o false) (slice_get-set_other words input s sample (other s e))
        ∙ ap (λ (V : Valuation). V s b) before
        ∙ sym (ap (λ (V : Valuation). V s b) first ∙ ap (λ t. if t then bit_of sample b else sampled (drop (k + 1) inputs) (drop (k + 1) samples) s b) e)
