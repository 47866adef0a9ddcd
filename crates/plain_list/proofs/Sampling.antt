-- The samples loaded into words, from the last input to the first.
use Rattle.std.proofs.Common.{◌≡◌, ◌≢◌, ℕ, zero, suc, ◌+◌, ◌<◌, ◌≤◌, ◌⊎◌, inl, inr, true, false, ◌==◌, List, [], ◌∷◌, length, get_or, drop, refl, ap, sym, ◌∙◌, subst, arith}
use Rattle.std.specs.Prelude.{slice_get, slice_set, Option, Some, None}
use Rattle.std.specs.Option.{option_map_or}
use Rattle.std.proofs.Math.Path.{fun_ext}
use Rattle.std.proofs.Math.Seq.{drop-length}
use Rattle.std.proofs.lemmas.Grind.{common_steps}
use Rattle.std.specs.Int.{bit_at}
use Rattle.std.proofs.lemmas.Nat.Bits.{bit_at-zero}
use Rattle.std.proofs.lemmas.Option.{slice_get_within}
use Rattle.loc_base.specs.declared.bits.Bits.{Bits}
use Rattle.loc_base.specs.Bits.{width_of, value_of, bit_of}
use Rattle.loc_base.proofs.ShelfLists.{slice_get-at}
use Rattle.loc_base.proofs.ShelfOptions.{Some-same}
use Rattle.design_core.specs.declared.signal.Signal.{Signal}
use Rattle.design_core.specs.Valuation.{width_at}
use Rattle.design_core.specs.Words.{valuation_of, AreWordsOf}
use Rattle.design_core.specs.TraceFits.{samples_fit}
use Rattle.design_core.specs.Cycle.{sampled}
use Rattle.plain_values.proofs.EvaluateWords.{word-width, words-length}
use Rattle.plain_list.proofs.Settled.{same_or_not}
use Rattle.plain_list.proofs.Assigning.{both_true, get-set_same, get-set_other, words-set}

-- the first words are 0
pub record ZeroBefore (count : ℕ) (words : List Bits) : Type 0 where
  pub zeros : (s : ℕ) (word : Bits) → s < count → slice_get words s ≡ Some word → value_of word ≡ 0

pub ZeroBefore-set : (count : ℕ) (words : List Bits) (word : Bits) → count < length words → value_of word ≡ 0 → ZeroBefore count words → ZeroBefore (count + 1) (slice_set words count word)
ZeroBefore-set count words word l z before = record { zeros = λ s w h at. by_place s w h at (same_or_not s count) }
  where
    by_place : (s : ℕ) (w : Bits) → s < count + 1 → slice_get (slice_set words count word) s ≡ Some w → (s ≡ count) ⊎ (s ≢ count) → value_of w ≡ 0
    by_place s w h at (inl e) =
        ap value_of (Some-same (sym (subst (λ m. slice_get (slice_set words count word) m ≡ Some w) e at) ∙ get-set_same words count word l)) ∙ z
    by_place s w h at (inr apart) = before.zeros s w (omega (arith, h, apart)) (sym (get-set_other words count s word apart) ∙ at)

pub all_zero : (words : List Bits) → ZeroBefore (length words) words → valuation_of words ≡ (λ _ _. false)
all_zero words zero_words = fun_ext (λ s. fun_ext (λ b. by_word s b (slice_get words s) refl))
  where
    by_word : (s b : ℕ) (o : Option Bits) → slice_get words s ≡ o → valuation_of words s b ≡ false
    by_word s b None e = rw e refl
    by_word s b (Some word) e = rw e (ap (λ n. bit_at n b == 1) (zero_words.zeros s word (slice_get_within words s word e) e) ∙ ap (λ n. n == 1) (bit_at-zero b))

-- one more sample loaded
pub sampled-set : (inputs : List ℕ) (samples words : List Bits) (input : ℕ) (sample : Bits) → input < length words → valuation_of words ≡ sampled inputs samples
    → valuation_of (slice_set words input sample) ≡ sampled (input ∷ inputs) (sample ∷ samples)
sampled-set inputs samples words input sample l e = fun_ext (λ s. fun_ext (λ b. at s b (same_or_not s input)))
  where
    at : (s b : ℕ) → (s ≡ input) ⊎ (s ≢ input) → valuation_of (slice_set words input sample) s b ≡ sampled (input ∷ inputs) (sample ∷ samples) s b
    at s b (inl same) =
        subst (λ m. valuation_of (slice_set words input sample) m b ≡ sampled (input ∷ inputs) (sample ∷ samples) m b) (sym same)
        (ap (λ o. option_map_or (λ x. bit_of x b) o false) (get-set_same words input sample l) ∙ sym (here input b))
      where
        here : (m b : ℕ) → sampled (m ∷ inputs) (sample ∷ samples) m b ≡ bit_of sample b
        here m b = grind (arith, common_steps)
    at s b (inr apart) =
        ap (λ o. option_map_or (λ x. bit_of x b) o false) (get-set_other words input s sample apart) ∙ ap (λ V. V s b) e ∙ sym there
      where
        there : sampled (input ∷ inputs) (sample ∷ samples) s b ≡ sampled inputs samples s b
        there = rw (other input s (λ h. apart (sym h))) refl
          where
            other : (m n : ℕ) → m ≢ n → (m == n) ≡ false
            other m n h = grind (arith, common_steps)

-- where the samples fit, each input is a signal of the sample's width
pub sample-fits : (signals : List Signal) (inputs : List ℕ) (samples : List Bits) (i : ℕ) → samples_fit signals inputs samples ≡ true → i < length inputs
    → (length inputs ≡ length samples) × ((x : Bits) → width_of (get_or samples i x) ≡ width_at signals (get_or inputs i 0))
sample-fits signals inputs samples i h l = (lengths inputs samples h, λ x. widths inputs samples i h l x)
  where
    widths : (inputs : List ℕ) (samples : List Bits) (i : ℕ) → samples_fit signals inputs samples ≡ true → i < length inputs → (x : Bits) → width_of (get_or samples i x) ≡ width_at signals (get_or inputs i 0)
    widths [] samples i h l x = absurd (omega (arith, l))
    widths (s ∷ inputs) [] i h l x = absurd (bad h)
      where
        bad : false ≡ true → ⊥
        bad e = cc
    widths (s ∷ inputs) (y ∷ samples) zero h l x = same (both_true (width_of y == width_at signals s) (samples_fit signals inputs samples) h).0
      where
        same : (width_of y == width_at signals s) ≡ true → width_of y ≡ width_at signals s
        same e = grind (arith, common_steps)
    widths (s ∷ inputs) (y ∷ samples) (suc i) h l x = widths inputs samples i (both_true (width_of y == width_at signals s) (samples_fit signals inputs samples) h).1 (omega (arith, l)) x

    lengths : (inputs : List ℕ) (samples : List Bits) → samples_fit signals inputs samples ≡ true → length inputs ≡ length samples
    lengths [] [] h = refl
    lengths [] (y ∷ samples) h = absurd (bad h)
      where
        bad : false ≡ true → ⊥
        bad e = cc
    lengths (s ∷ inputs) [] h = absurd (bad h)
      where
        bad : false ≡ true → ⊥
        bad e = cc
    lengths (s ∷ inputs) (y ∷ samples) h = ap suc (lengths inputs samples (both_true (width_of y == width_at signals s) (samples_fit signals inputs samples) h).1)

-- one more word put at 0
pub cleared-next : (signals : List Signal) (words : List Bits) (i : ℕ) (old new : Bits) → AreWordsOf signals words × ZeroBefore i words → i < length words
    → old ≡ get_or words i old → width_of new ≡ width_of old → value_of new ≡ 0
    → AreWordsOf signals (slice_set words i new) × ZeroBefore (i + 1) (slice_set words i new)
cleared-next signals words i old new (a, z) l at w v = (
  words-set signals words i new a l (w ∙ word-width signals words i old a (slice_get-at words i old l at)),
  ZeroBefore-set i words new l v z,
)

pub nothing_loaded : (signals : List Signal) (inputs : List ℕ) (samples : List Bits) → samples_fit signals inputs samples ≡ true → (λ _ _. false) ≡ sampled (drop (length inputs) inputs) (drop (length inputs) samples)
nothing_loaded signals inputs samples h = fun_ext (λ s. fun_ext (λ b. sym (none s b)))
  where
    all : drop (length inputs) inputs ≡ []
    all = drop-length inputs

    none : (s b : ℕ) → sampled (drop (length inputs) inputs) (drop (length inputs) samples) s b ≡ false
    none s b = rw all refl

pub is_signal-width : (signals : List Signal) (s : ℕ) → 1 ≤ width_at signals s → s < length signals
is_signal-width [] s h = absurd (omega (arith, h))
is_signal-width (x ∷ signals) zero h = omega arith
is_signal-width (x ∷ signals) (suc s) h = omega (arith, is_signal-width signals s h)

pub sample-place : (signals : List Signal) (inputs : List ℕ) (samples words : List Bits) (i : ℕ) → samples_fit signals inputs samples ≡ true → AreWordsOf signals words → i < length inputs
    → (i < length samples) × (get_or inputs i 0 < length words)
sample-place signals inputs samples words i h a l = (within, subst (λ n. get_or inputs i 0 < n) (sym (words-length signals words a)) (is_signal-width signals (get_or inputs i 0) wide))
  where
    fits : (length inputs ≡ length samples) × ((x : Bits) → width_of (get_or samples i x) ≡ width_at signals (get_or inputs i 0))
    fits = sample-fits signals inputs samples i h l

    within : i < length samples
    within = subst (λ n. i < n) fits.0 l

    wide : 1 ≤ width_at signals (get_or inputs i 0)
    wide = at_least samples within fits.1
      where
        at_least : (samples : List Bits) → i < length samples → ((x : Bits) → width_of (get_or samples i x) ≡ width_at signals (get_or inputs i 0)) → 1 ≤ width_at signals (get_or inputs i 0)
        at_least [] l f = absurd (omega (arith, l))
        at_least (y ∷ samples) l f = subst (λ n. 1 ≤ n) (f y) (get_or (y ∷ samples) i y).at_least_one

pub sampled-next : (signals : List Signal) (inputs : List ℕ) (samples words : List Bits) (left : ℕ) (sample : Bits) → samples_fit signals inputs samples ≡ true
    → AreWordsOf signals words → left < length inputs → sample ≡ get_or samples left sample
    → valuation_of words ≡ sampled (drop (left + 1) inputs) (drop (left + 1) samples)
    → AreWordsOf signals (slice_set words (get_or inputs left 0) sample) × (valuation_of (slice_set words (get_or inputs left 0) sample) ≡ sampled (drop left inputs) (drop left samples))
sampled-next signals inputs samples words left sample h a l at e = (
  words-set signals words (get_or inputs left 0) sample a place.1 (ap width_of at ∙ (sample-fits signals inputs samples left h l).1 sample),
  sampled-set (drop (left + 1) inputs) (drop (left + 1) samples) words (get_or inputs left 0) sample place.1 e
      ∙ sym (ap (λ xs. sampled xs (drop left samples)) (drop-at inputs left 0 l) ∙ ap (λ ys. sampled (get_or inputs left 0 ∷ drop (left + 1) inputs) ys) (drop-at samples left sample place.0 ∙ ap (λ y. y ∷ drop (left + 1) samples) (sym at))),
)
  where
    place : (left < length samples) × (get_or inputs left 0 < length words)
    place = sample-place signals inputs samples words left h a l

    drop-at : {X : Type 0} (xs : List X) (k : ℕ) (d : X) → k < length xs → drop k xs ≡ get_or xs k d ∷ drop (k + 1) xs
    drop-at [] k d h = absurd (omega (arith, h))
    drop-at (x ∷ xs) zero d h = refl
    drop-at (x ∷ xs) (suc k) d h = drop-at xs k d (omega (arith, h)) ∙ ap (λ n. get_or xs k d ∷ drop n (x ∷ xs)) (next k)
      where
        next : (k : ℕ) → suc (k + 1) ≡ suc k + 1
        next k = omega arith

pub samples-length : (signals : List Signal) (inputs : List ℕ) (samples : List Bits) → samples_fit signals inputs samples ≡ true → length inputs ≡ length samples
samples-length signals [] [] h = refl
samples-length signals [] (y ∷ samples) h = absurd (bad h)
  where
    bad : false ≡ true → ⊥
    bad e = cc
samples-length signals (s ∷ inputs) [] h = absurd (bad h)
  where
    bad : false ≡ true → ⊥
    bad e = cc
samples-length signals (s ∷ inputs) (y ∷ samples) h = ap suc (samples-length signals inputs samples (both_true (width_of y == width_at signals s) (samples_fit signals inputs samples) h).1)
