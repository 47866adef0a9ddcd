-- Bits of signals and words of arrays by a variable index.
use Rattle.std.proofs.Common.{◌≡◌, ℕ, ◌+◌, ◌-◌, ◌<◌, ◌≤◌, Bool, true, List, length, take, drop, Option, Some, None, refl, sym, ◌∙◌, ap, subst, arith, ◌⊎◌, inl, inr}
use Rattle.std.specs.Prelude.{slice_get, ◌&&◌, ◌==◌, nat_le, nat_lt, if◌then◌else◌, ℤ, pos, negsuc, ◌+ℤ◌, ◌-ℤ◌}
use Rattle.std.specs.Ordering.{int_eq}
use Rattle.std.specs.Option.{option_map_or, option_and_then}
use Rattle.std.specs.List.{list_all}
use Rattle.std.specs.Bool.{one_answer}
use Rattle.std.proofs.lemmas.Bool.{and_parts, and_from, ltb-true, lt-ltb, le-ltb, leb-true, le-leb, eqb-true, eq-eqb, cases_order}
use Rattle.std.proofs.lemmas.Bool.Decides.{Decides-int_eq}
use Rattle.std.proofs.lemmas.Int.{ints}
use Rattle.loc_base.proofs.ShelfBools.{if-cases, equal-false}
use Rattle.loc_base.proofs.ShelfLists.{slice_get-some}
use Rattle.design_core.specs.declared.signal.Signal.{Signal}
use Rattle.design_core.specs.Valuation.{Valuation, bit, number, width_at, distance_of, place_within, position_at, bit_or_zero}
use Rattle.design_core.specs.Value.{picked}
use Rattle.design_core.specs.Pick.{is_at}
use Rattle.design_core.specs.Drives.{is_among}
use Rattle.design_core.specs.WellFormed.{is_width, is_signal, slice_fits, words_fit}
use Rattle.design_core.proofs.ReadsWithin.{word-below}
use Rattle.word_net.specs.Selects.{Range, position_in, picked_bit}
use Rattle.synth_parts.specs.Expression.{left_at, right_at}
use Rattle.synth_parts.proofs.Base.{bit-number}

-- ---- places

pub place-some : (places : ℕ) (d : ℤ) (p : ℕ) → place_within places d ≡ Some p → (d ≡ pos p) × (p < places)
place-some places (pos n) p e =
    elim (if-cases (nat_lt n places) (Some n) None (Some p) e) [
      | inl (low, same) ↦ let is : n ≡ p = cc in (ap pos is, subst (λ k. k < places) is (ltb-true n places low))
      | inr (high, none) ↦ absurd cc
    ]
place-some places (negsuc n) p e = absurd cc

pub place-here : (places p : ℕ) → p < places → place_within places (pos p) ≡ Some p
place-here places p low = rw (lt-ltb p places low) refl

-- the address is the one of word k exactly where k is the place that it has
pub is-place : (count k : ℕ) (address low : ℤ) → k < count → int_eq address (low +ℤ pos k) ≡ is_at k (place_within count (address -ℤ low))
is-place count k address low within =
    one_answer (int_eq address (low +ℤ pos k)) (is_at k (place_within count (address -ℤ low))) (Decides-int_eq address (low +ℤ pos k)) (to (place_within count (address -ℤ low)) refl, from)
  where
    to : (o : Option ℕ) → place_within count (address -ℤ low) ≡ o → is_at k o ≡ true → address ≡ low +ℤ pos k
    to None e at = absurd cc
    to (Some p) e at =
        let here : p ≡ k = eqb-true p k at in
        let d : address -ℤ low ≡ pos p = (place-some count (address -ℤ low) p e).0 in
        omega (arith, ints, d, here)

    from : address ≡ low +ℤ pos k → is_at k (place_within count (address -ℤ low)) ≡ true
    from same =
        let d : address -ℤ low ≡ pos k = omega (arith, ints, same) in
        ap (λ z. is_at k (place_within count z)) d ∙ ap (is_at k) (place-here count k within) ∙ eq-eqb k k refl

-- ---- bits of a signal

abbrev pub range_at : List Signal → ℕ → Range
range_at signals s = record { width = width_at signals s; left = left_at signals s; right = right_at signals s }

pub position-at : (signals : List Signal) (s : ℕ) (index : ℤ) → is_signal signals s ≡ true
    → position_at signals s index ≡ position_in (record { width = width_at signals s; left = left_at signals s; right = right_at signals s }) index
position-at signals s index there = let (signal, at) = slice_get-some signals s (ltb-true s (length signals) there) in rw at refl

bit-at : (w : ℕ) (f : ℕ → Bool) (o : Option ℕ) → ((p : ℕ) → o ≡ Some p → p < w) → bit_or_zero (bit (number w f)) o ≡ bit_or_zero f o
bit-at w f None within = refl
bit-at w f (Some p) within = bit-number w f p (within p refl)

-- a part of a signal by a variable index reads the same of the signal's number
pub picked-same : (signals : List Signal) (V : Valuation) (s : ℕ) (index : ℤ) (offsets : List ℤ) (b : ℕ) → is_signal signals s ≡ true
    → picked_bit (record { width = width_at signals s; left = left_at signals s; right = right_at signals s }) (bit (number (width_at signals s) (V s))) index offsets b ≡ picked signals V s index offsets b
picked-same signals V s index offsets b there = at (slice_get offsets b)
  where
    range : Range
    range = record { width = width_at signals s; left = left_at signals s; right = right_at signals s }

    at : (o : Option ℤ) → bit_or_zero (bit (number (width_at signals s) (V s))) (option_and_then (λ k. position_in range (index +ℤ k)) o)
        ≡ bit_or_zero (V s) (option_and_then (λ k. position_at signals s (index +ℤ k)) o)
    at None = refl
    at (Some k) =
        bit-at (width_at signals s) (V s) (position_in range (index +ℤ k))
        (λ p e. (place-some (width_at signals s) (distance_of (left_at signals s) (right_at signals s) (index +ℤ k)) p e).1)
        ∙ ap (bit_or_zero (V s)) (sym (position-at signals s (index +ℤ k) there))

-- ---- words of an array

-- where a word of an array stands, and that the bits that are read are its own
pub words-at : (signals : List Signal) (first count from width k : ℕ) → words_fit signals first count from width ≡ true → k < count
    → (first + k < length signals) × (from + width ≤ width_at signals (first + k)) × (is_width width ≡ true)
words-at signals first count from width k fits within =
    let one : Bool = nat_le 1 count in
    let two : Bool = nat_le (first + count) (length signals) in
    let three : Bool = slice_fits signals first from width in
    let four : Bool = list_all (λ s. s.width == width_at signals first) (take count (drop first signals)) in
    let a = and_parts (one && two && three) four fits in
    let b = and_parts (one && two) three a.0 in
    let c = and_parts one two b.0 in
    let d = and_parts (is_signal signals first && is_width width) (nat_le (from + width) (width_at signals first)) b.1 in
    let wide = (and_parts (is_signal signals first) (is_width width) d.0).1 in
    let some : 1 ≤ width = leb-true 1 width (and_parts (nat_le 1 width) (nat_le width 128) wide).0 in
    let last : ℕ = from + (width - 1) in
    let there : is_among first count (first + k) ≡ true = and_from (nat_le first (first + k)) (nat_lt (first + k) (first + count)) (le-leb first (first + k) (omega arith)) (lt-ltb (first + k) (first + count) (omega (arith, within))) in
    let own : is_among from width last ≡ true = and_from (nat_le from last) (nat_lt last (from + width)) (le-leb from last (omega arith)) (lt-ltb last (from + width) (omega (arith, some))) in
    let below = word-below signals first count from width (first + k) last fits (and_from (is_among first count (first + k)) (is_among from width last) there own) in
    (omega (arith, leb-true (first + count) (length signals) c.1, within), omega (arith, below, some), wide)

-- the word at a place if that lies below k, else 0
abbrev pub word_below : (ℕ → ℕ) → Option ℕ → ℕ → ℕ
word_below f p k = option_map_or (λ j. if nat_lt j k then f j else 0) p 0

pub none_below : (f : ℕ → ℕ) (p : Option ℕ) → word_below f p 0 ≡ 0
none_below f None = refl
none_below f (Some j) = rw (le-ltb j 0 (omega arith)) refl

pub all_below : (f : ℕ → ℕ) (p : Option ℕ) (count : ℕ) → ((j : ℕ) → p ≡ Some j → j < count) → word_below f p count ≡ option_map_or f p 0
all_below f None count within = refl
all_below f (Some j) count within = rw (lt-ltb j count (within j refl)) refl

pub next_below : (f : ℕ → ℕ) (p : Option ℕ) (k : ℕ) → (if is_at k p then f k else word_below f p k) ≡ word_below f p (k + 1)
next_below f None k = refl
next_below f (Some j) k = at (cases_order j k)
  where
    at : (j ≡ k) ⊎ ((j < k) ⊎ (k < j)) → (if j == k then f k else (if nat_lt j k then f j else 0)) ≡ (if nat_lt j (k + 1) then f j else 0)
    at (inr (inl low)) = rw (equal-false j k (omega arith), lt-ltb j k low, lt-ltb j (k + 1) (omega (arith, low))) refl
    at (inl same) = rw (eq-eqb j k same, lt-ltb j (k + 1) (omega (arith, same))) (ap f (sym same))
    at (inr (inr high)) = rw (equal-false j k (omega arith), le-ltb j k (omega (arith, high)), le-ltb j (k + 1) (omega (arith, high))) refl
