-- The steps of the definitions of values, and what is known of the parts of an expression that fits.
use Rattle.std.proofs.Common.{◌≡◌, ℕ, ◌+◌, ◌-◌, ◌*◌, ◌^◌, ◌<◌, ◌≤◌, List, [], ◌∷◌, length, get_or, take, drop, ap, arith, ◌∙◌, sym, refl, add-one, ◌+ℤ◌}
use Rattle.std.specs.Prelude.{Bool, true, false, nat_le, ◌&&◌, ◌==◌, IsTrue, ℤ, pos, negsuc, ◌-ℤ◌, nat_lt, if◌then◌else◌, slice_get, Option, Some, None}
use Rattle.std.specs.Option.{option_map_or, option_and_then}
use Rattle.std.specs.List.{list_all}
use Rattle.std.proofs.lemmas.Bool.{ltb-true, eqb-true}
use Rattle.std.proofs.lemmas.Option.{slice_get-get_or}
use Rattle.std.proofs.lemmas.List.{get_or-take, get_or-drop, length-take, length-drop}
use Rattle.std.proofs.lemmas.List.Folds.{list_all_at}
use Rattle.std.proofs.lemmas.Bool.Decides.{nat_tests}
use Rattle.loc_base.specs.declared.bits.Bits.{Bits}
use Rattle.loc_base.specs.Bits.{bit_of, width_of, value_of}
use Rattle.design_core.specs.declared.signal.Signal.{Signal}
use Rattle.design_core.specs.Valuation.{bit, bit_or_zero, position_of, position_at, width_at, word_at, place_within}
use Rattle.design_core.specs.Value.{picked}
use Rattle.design_core.specs.Operator.{repeated}
use Rattle.design_core.specs.WellFormed.{is_width, is_signal, slice_fits, words_fit}
use Rattle.design_core.specs.Words.{valuation_of, AreWordsOf}
use Rattle.plain_values.proofs.EvaluateWords.{word-width}

-- a word a number of times
pub repeated-one : (w a : ℕ) → repeated 1 w a ≡ a
unfolding repeated
repeated-one w a = omega arith

pub repeated-one_more : (times w a : ℕ) → repeated (times + 1) w a ≡ repeated times w a * 2 ^ w + a
unfolding repeated
repeated-one_more times w a = ap (λ k. repeated k w a) (add-one times)

-- a bit that is picked
pub picked-bit : (signals : List Signal) (words : List Bits) (signal : ℕ) (at : ℤ) (offsets : List ℤ) (b : ℕ) (declared : Signal) (word : Bits) (offset : ℤ)
    → slice_get signals signal ≡ Some declared → slice_get words signal ≡ Some word → slice_get offsets b ≡ Some offset
    → picked signals (valuation_of words) signal at offsets b ≡ bit_or_zero (bit (value_of word)) (position_of declared (at +ℤ offset))
picked-bit signals words signal at offsets b declared word offset is-declared is-word is-offset =
    ap (λ o. bit_or_zero (valuation_of words signal) (option_and_then (λ k. position_at signals signal (at +ℤ k)) o)) is-offset
    ∙ ap (λ o. bit_or_zero (valuation_of words signal) (option_and_then (λ s. position_of s (at +ℤ offset)) o)) is-declared
    ∙ ap (λ o. bit_or_zero (λ b'. option_map_or (λ w. bit_of w b') o false) (position_of declared (at +ℤ offset))) is-word

-- bits of a signal
pub slice-within : (signals : List Signal) (s from size width : ℕ) → IsTrue (slice_fits signals s from size && size == width)
    → (from + size ≤ width_at signals s) × (size ≡ width)
slice-within signals s from size width fits = grind (arith, nat_tests)

pub width-most : (width : ℕ) → IsTrue (is_width width) → width ≤ 128
width-most width h = grind (arith, nat_tests)

-- the word of an array at an address is one of its words
pub within-place : (places k : ℕ) (d : ℤ) → place_within places d ≡ Some k → k < places
within-place places k (pos d) h = first (nat_lt d places) refl h
  where
    first : (b : Bool) → nat_lt d places ≡ b → (if b then Some d else None) ≡ Some k → k < places
    first true test e = let same : d ≡ k = cc in omega (arith, ltb-true d places test)
    first false test e = absurd cc
within-place places k (negsuc d) h = absurd cc

pub word_at-within : (first count s : ℕ) (low address : ℤ) → word_at first count low address ≡ Some s → (first ≤ s) × (s < first + count)
word_at-within first count s low address h = found (place_within count (address -ℤ low)) refl h
  where
    found : (o : Option ℕ) → place_within count (address -ℤ low) ≡ o → option_and_then (λ k. Some (first + k)) o ≡ Some s → (first ≤ s) × (s < first + count)
    found None is e = absurd cc
    found (Some k) is e =
        let same : first + k ≡ s = cc in
        let less : k < count = within-place count k (address -ℤ low) is in
        (omega arith, omega arith)

-- one of many that pass a test
pub passes_at : {X : Type 0} (test : X → Bool) (xs : List X) (i : ℕ) (d : X) → IsTrue (list_all test xs) → i < length xs → test (get_or xs i d) ≡ true
passes_at test xs i d all h = decide (test (get_or xs i d)) refl
  where
    decide : (b : Bool) → test (get_or xs i d) ≡ b → test (get_or xs i d) ≡ true
    decide true e = e
    decide false e = let none : list_all test xs ≡ false = list_all_at test xs i d h e in absurd cc

tests : (count first all width size : ℕ) (fits same : Bool) → IsTrue (nat_le 1 count && nat_le (first + count) all && fits && same)
    → (1 ≤ count) × (first + count ≤ all) × IsTrue fits × IsTrue same
tests count first all width size fits same h = grind (arith, nat_tests)

same_widths_at : (signals : List Signal) (first count s : ℕ) (d : Signal) → IsTrue (list_all (λ x. x.width == width_at signals first) (take count (drop first signals)))
    → first ≤ s → s < first + count → first + count ≤ length signals → width_at signals s ≡ width_at signals first
same_widths_at signals first count s d all low high within =
    let i : s ≡ first + (s - first) = omega arith in
    let less : s - first < count = omega arith in
    let inner : s - first < length (take count (drop first signals)) = omega (arith, length-take {A = Signal}, length-drop {A = Signal}) in
    let test : get_or (take count (drop first signals)) (s - first) d ≡ get_or signals s d =
    get_or-take count (drop first signals) (s - first) d less ∙ get_or-drop first signals (s - first) d ∙ ap (λ k. get_or signals k d) (sym i) in
    ap (λ o. option_map_or (λ x. x.width) o 0) (slice_get-get_or signals s d (omega arith))
    ∙ sym (ap (λ x. x.width) test)
    ∙ eqb-true _ _ (passes_at (λ x. x.width == width_at signals first) (take count (drop first signals)) (s - first) d all inner)

-- bits of each word of an array
pub words-within : (signals : List Signal) (first count from width s : ℕ) → IsTrue (words_fit signals first count from width)
    → first ≤ s → s < first + count → (s < length signals) × (from + width ≤ width_at signals s)
words-within [] first count from width s fits low high =
    let t = tests count first 0 width width (slice_fits [] first from width) (list_all (λ x. x.width == width_at [] first) (take count (drop first []))) fits in
    absurd (omega arith)
words-within (d ∷ rest) first count from width s fits low high =
    let signals : List Signal = d ∷ rest in
    let t = tests count first (length signals) width width (slice_fits signals first from width) (list_all (λ x. x.width == width_at signals first) (take count (drop first signals))) fits in
    let inside : from + width ≤ width_at signals first = (slice-within signals first from width width (and_same t.2)).0 in
    let same : width_at signals s ≡ width_at signals first = same_widths_at signals first count s d t.3 low high t.1 in
    (omega arith, omega arith)
  where
    and_same : IsTrue (slice_fits (d ∷ rest) first from width) → IsTrue (slice_fits (d ∷ rest) first from width && width == width)
    and_same h = grind (arith, nat_tests)

-- a whole signal
pub whole-width : (signals : List Signal) (words : List Bits) (s width : ℕ) (word : Bits) → AreWordsOf signals words → slice_get words s ≡ Some word
    → IsTrue (is_width width && is_signal signals s && width_at signals s == width) → width_of word ≡ width
whole-width signals words s width word fit is fits = word-width signals words s word fit is ∙ last (is_width width) (is_signal signals s) (width_at signals s) fits
  where
    last : (a b : Bool) (n : ℕ) → IsTrue (a && b && n == width) → n ≡ width
    last a b n h = grind (arith, nat_tests)

-- an array's bits
pub array-fits : (signals : List Signal) (first count from size width : ℕ) (index : Bool) → IsTrue (words_fit signals first count from size && size == width && index)
    → IsTrue (words_fit signals first count from size)
array-fits signals first count from size width index h = first_of_three (words_fit signals first count from size) (size == width) index h
  where
    first_of_three : (a b c : Bool) → IsTrue (a && b && c) → IsTrue a
    first_of_three a b c t = grind (arith, nat_tests)
