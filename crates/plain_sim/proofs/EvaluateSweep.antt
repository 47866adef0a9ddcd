-- Words that are replaced one after another, from the first signal on.
use Rattle.std.proofs.Common.{◌≡◌, ℕ, zero, suc, ◌+◌, ◌-◌, ◌*◌, ◌^◌, ◌<◌, ◌≤◌, List, length, get_or, set, map, ap, ◌∙◌, sym, refl, arith, ◌⊎◌, inl, inr}
use Rattle.std.specs.Prelude.{Bool, true, false, ◌==◌, if◌then◌else◌, slice_get, Option, Some, None}
use Rattle.std.specs.Option.{option_map_or}
use Rattle.std.specs.Int.{bit_at}
use Rattle.std.proofs.Math.Path.{fun_ext}
use Rattle.std.proofs.Math.Seq.{map-set_same}
use Rattle.std.proofs.lemmas.Bool.{cases_lt, cases_order}
use Rattle.std.proofs.lemmas.Option.{slice_get_past}
use Rattle.std.proofs.lemmas.Nat.Bits.{bit_at-zero, bit_at_cat_low, bit_at_cat_high}
use Rattle.loc_base.specs.declared.bits.Bits.{Bits}
use Rattle.loc_base.specs.Bits.{bit_of, width_of, value_of, value_of-range}
use Rattle.loc_base.proofs.ShelfLists.{slice_get-at, slice_get-set_other, slice_get-set_same}
use Rattle.design_core.specs.declared.signal.Signal.{Signal}
use Rattle.design_core.specs.Valuation.{Valuation, bit, number, width_at}
use Rattle.design_core.specs.Words.{valuation_of, AreWordsOf}
use Rattle.plain_sim.specs.EvaluateCycle.{either_bit, blended}
use Rattle.design_core.proofs.NumberLaws.{number-suc, number-below}
use Rattle.plain_values.proofs.EvaluateWords.{valuation-bit, word-width, words-length}
use Rattle.plain_values.proofs.EvaluateWrite.{bit-high}

-- ---- the bits of a number that some bits mean
same-bit : (x b y c : ℕ) → bit_at x b ≡ bit_at y c → bit x b ≡ bit y c
same-bit x b y c e = ap (λ n. n == 1) e

pub bit-number : (w : ℕ) (f : ℕ → Bool) (b : ℕ) → b < w → bit (number w f) b ≡ f b
bit-number zero f b h = absurd (omega (arith, h))
bit-number (suc w) f b h = ap (λ n. bit n b) (number-suc w f) ∙ at (f w) refl (cases_lt b w) (λ low. bit-number w f b low)
  where
    high : (x : Bool) → f w ≡ x → number w f + (if x then 2 ^ w else 0) ≡ (if x then 1 else 0) * 2 ^ w + number w f
    high true e = omega arith
    high false e = omega arith

    lowest : (x : Bool) → bit (if x then 1 else 0) 0 ≡ x
    lowest true = refl
    lowest false = refl

    at : (x : Bool) → f w ≡ x → (b < w) ⊎ (w ≤ b) → (b < w → bit (number w f) b ≡ f b) → bit (number w f + (if x then 2 ^ w else 0)) b ≡ f b
    at x e (inl low) below =
        ap (λ n. bit n b) (high x e) ∙ same-bit ((if x then 1 else 0) * 2 ^ w + number w f) b (number w f) b (bit_at_cat_low (if x then 1 else 0) w (number w f) b low) ∙ below low
    at x e (inr top) below =
        let here : b ≡ w = omega (arith, h, top) in
        let none : b - w ≡ 0 = omega (arith, here) in
        ap (λ n. bit n b) (high x e)
        ∙ same-bit ((if x then 1 else 0) * 2 ^ w + number w f) b (if x then 1 else 0) 0
        (bit_at_cat_high (if x then 1 else 0) w (number w f) b (number-below w f) top ∙ ap (λ k. bit_at (if x then 1 else 0) k) none)
        ∙ lowest x ∙ sym e ∙ sym (ap f here)

-- ---- bits where there are none
pub valuation-past : (words : List Bits) (s b : ℕ) → length words ≤ s → valuation_of words s b ≡ false
valuation-past words s b h = ap (λ o. option_map_or (λ word. bit_of word b) o false) (slice_get_past words s h)

pub word-high : (words : List Bits) (s b : ℕ) (word : Bits) → slice_get words s ≡ Some word → width_of word ≤ b → valuation_of words s b ≡ false
word-high words s b word is h = valuation-bit words s b word is ∙ bit-high (value_of word) (width_of word) b (value_of-range word) h

pub valuation-high : (signals : List Signal) (words : List Bits) (s b : ℕ) → AreWordsOf signals words → width_at signals s ≤ b → valuation_of words s b ≡ false
valuation-high signals words s b fit h = at (slice_get words s) refl
  where
    at : (o : Option Bits) → slice_get words s ≡ o → valuation_of words s b ≡ false
    at None e = ap (λ o. option_map_or (λ word. bit_of word b) o false) e
    at (Some word) e = word-high words s b word e (omega (arith, h, word-width signals words s word fit e))

-- ---- the first words are those of F, and the others as they were
pub record Swept (F : Valuation) (old words : List Bits) (i : ℕ) : Type 0 where
  pub done : (s b : ℕ) → s < i → valuation_of words s b ≡ F s b
  pub rest : (s : ℕ) → i ≤ s → slice_get words s ≡ slice_get old s
  pub widths : map width_of words ≡ map width_of old

pub swept-none : (F : Valuation) (words : List Bits) → Swept F words words 0
swept-none F words = record { done = λ s b h. absurd (omega (arith, h)); rest = λ s h. refl; widths = refl }

pub swept-next : (F : Valuation) (old words : List Bits) (i : ℕ) (word new : Bits) → Swept F old words i → i < length words
    → word ≡ get_or words i word → width_of new ≡ width_of word → ((b : ℕ) → bit (value_of new) b ≡ F i b) → Swept F old (set words i new) (i + 1)
swept-next F old words i word new before within is width each =
    record {
      done = λ s b h. at s b (cases_order s i) h;
      rest = λ s h. slice_get-set_other words i s new (λ e. omega (arith, h, e)) ∙ before.rest s (omega (arith, h));
      widths = map-set_same width_of words i new word (width ∙ ap width_of is) ∙ before.widths;
    }
  where
    at : (s b : ℕ) → (s ≡ i) ⊎ ((s < i) ⊎ (i < s)) → s < i + 1 → valuation_of (set words i new) s b ≡ F s b
    at s b (inl e) h =
        ap (λ k. valuation_of (set words i new) k b) e
        ∙ ap (λ o. option_map_or (λ w. bit_of w b) o false) (slice_get-set_same words i new within)
        ∙ each b ∙ ap (λ k. F k b) (sym e)
    at s b (inr (inl low)) h =
        ap (λ o. option_map_or (λ w. bit_of w b) o false) (slice_get-set_other words i s new (λ e. omega (arith, low, e))) ∙ before.done s b low
    at s b (inr (inr high)) h = absurd (omega (arith, h, high))

pub swept-all : (F : Valuation) (old words : List Bits) (i : ℕ) → Swept F old words i → length words ≤ i → ((s b : ℕ) → length words ≤ s → F s b ≡ false)
    → valuation_of words ≡ F
swept-all F old words i all h past = fun_ext (λ s. fun_ext (λ b. at s b (cases_lt s (length words))))
  where
    at : (s b : ℕ) → (s < length words) ⊎ (length words ≤ s) → valuation_of words s b ≡ F s b
    at s b (inl within) = all.done s b (omega (arith, within, h))
    at s b (inr beyond) = valuation-past words s b beyond ∙ sym (past s b beyond)

-- the old word is still there
pub swept-here : (F : Valuation) (old words : List Bits) (i b : ℕ) (word : Bits) → Swept F old words i → i < length words → word ≡ get_or words i word
    → bit (value_of word) b ≡ valuation_of old i b
swept-here F old words i b word before within is =
    sym (valuation-bit words i b word (slice_get-at words i word within is)) ∙ ap (λ o. option_map_or (λ w. bit_of w b) o false) (before.rest i (omega arith))

pub bit-zero : (b : ℕ) → bit 0 b ≡ false
bit-zero b = ap (λ n. n == 1) (bit_at-zero b)

either-same : (t x : Bool) → (if t then x else x) ≡ x
either-same true x = refl
either-same false x = refl

either-false : (t x y : Bool) → x ≡ false → y ≡ false → (if t then x else y) ≡ false
either-false true x y p q = p
either-false false x y p q = q

-- a word whose bits are chosen between two words of one width
pub either-bits : (test : ℕ → Bool) (one other new : Bits) → width_of one ≡ width_of other
    → value_of new ≡ number (width_of other) (either_bit test (bit (value_of one)) (bit (value_of other)))
    → (b : ℕ) → bit (value_of new) b ≡ either_bit test (bit (value_of one)) (bit (value_of other)) b
either-bits test one other new same is b = at (cases_lt b (width_of other))
  where
    f : ℕ → Bool
    f = either_bit test (bit (value_of one)) (bit (value_of other))

    at : (b < width_of other) ⊎ (width_of other ≤ b) → bit (value_of new) b ≡ f b
    at (inl low) = ap (λ n. bit n b) is ∙ bit-number (width_of other) f b low
    at (inr high) =
        ap (λ n. bit n b) is
        ∙ bit-high (number (width_of other) f) (width_of other) b (number-below (width_of other) f) high
        ∙ sym (either-false (test b) (bit (value_of one) b) (bit (value_of other) b)
        (bit-high (value_of one) (width_of one) b (value_of-range one) (omega (arith, high, same)))
        (bit-high (value_of other) (width_of other) b (value_of-range other) high))

pub either-past : (test : ℕ → ℕ → Bool) (one other : List Bits) (s b : ℕ) → length one ≤ s → length other ≤ s
    → blended test (valuation_of one) (valuation_of other) s b ≡ false
either-past test one other s b p q = either-false (test s b) (valuation_of one s b) (valuation_of other s b) (valuation-past one s b p) (valuation-past other s b q)

-- one more word whose bits are chosen
pub taken-next : (signals : List Signal) (test : ℕ → ℕ → Bool) (from old words : List Bits) (i : ℕ) (one other new : Bits)
    → AreWordsOf signals from → AreWordsOf signals old
    → Swept (blended test (valuation_of from) (valuation_of old)) old words i → i < length words
    → one ≡ get_or from i one → other ≡ get_or words i other → width_of new ≡ width_of other
    → value_of new ≡ number (width_of other) (either_bit (test i) (bit (value_of one)) (bit (value_of other)))
    → Swept (blended test (valuation_of from) (valuation_of old)) old (set words i new) (i + 1)
taken-next signals test from old words i one other new from_fit old_fit before within one_is other_is width is =
    swept-next (blended test (valuation_of from) (valuation_of old)) old words i other new before within other_is width
    (λ b. either-bits (test i) one other new same is b
    ∙ ap (λ x. if test i b then x else bit (value_of other) b) (sym (valuation-bit from i b one one_at))
    ∙ ap (λ x. if test i b then valuation_of from i b else x) (swept-here (blended test (valuation_of from) (valuation_of old)) old words i b other before within other_is))
  where
    words_fit : AreWordsOf signals words
    words_fit = record { widths = before.widths ∙ old_fit.widths }

    one_at : slice_get from i ≡ Some one
    one_at = slice_get-at from i one (omega (arith, within, words-length signals words words_fit, words-length signals from from_fit)) one_is

    same : width_of one ≡ width_of other
    same = word-width signals from i one from_fit one_at ∙ sym (word-width signals words i other words_fit (slice_get-at words i other within other_is))

pub taken-all : (signals : List Signal) (test : ℕ → ℕ → Bool) (from old words : List Bits) (i : ℕ) → AreWordsOf signals from → AreWordsOf signals old
    → Swept (blended test (valuation_of from) (valuation_of old)) old words i → length words ≤ i
    → valuation_of words ≡ blended test (valuation_of from) (valuation_of old)
taken-all signals test from old words i from_fit old_fit all h =
    let words_fit : AreWordsOf signals words = record { widths = all.widths ∙ old_fit.widths } in
    swept-all (blended test (valuation_of from) (valuation_of old)) old words i all h
    (λ s b past. either-past test from old s b
    (omega (arith, past, words-length signals words words_fit, words-length signals from from_fit))
    (omega (arith, past, words-length signals words words_fit, words-length signals old old_fit)))
