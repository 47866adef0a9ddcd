-- Bits of a signal that are replaced, as a function of positions alone; other signals stay as they are.
use Rattle.std.proofs.Common.{◌≡◌, ℕ, ◌+◌, ◌-◌, ◌<◌, ◌≢◌, Bool, true, false, List, [], ◌∷◌, Option, Some, None, refl, ◌∙◌, ap, arith, ◌⊎◌, inl, inr}
use Rattle.std.specs.Prelude.{◌&&◌, nat_le, nat_lt, if◌then◌else◌, ℤ, ◌+ℤ◌}
use Rattle.std.specs.Option.{option_and_then}
use Rattle.std.proofs.lemmas.Bool.{eq-eqb, lt-ltb, le-ltb, cases_order}
use Rattle.loc_base.proofs.ShelfBools.{equal-false}
use Rattle.design_core.specs.declared.signal.Signal.{Signal}
use Rattle.design_core.specs.Valuation.{Valuation, position_at}
use Rattle.design_core.specs.Pick.{is_at}
use Rattle.design_core.specs.Store.{with_bits, with_bit, with_picked}
use Rattle.design_core.specs.WellFormed.{is_signal}
use Rattle.word_net.specs.Selects.{Range, position_in, put_bits, put_bit, put_picked}
use Rattle.synth_parts.proofs.Index.{range_at, position-at}

-- ---- fixed positions

-- a signal whose bits are replaced
pub bits-here : (M : Valuation) (s from width : ℕ) (bits : ℕ → Bool) (p : ℕ) → with_bits M s from width bits s p ≡ put_bits (M s) from width bits p
bits-here M s from width bits p = rw (eq-eqb s s refl) refl

pub bits-other : (M : Valuation) (s from width : ℕ) (bits : ℕ → Bool) (t p : ℕ) → t ≢ s → with_bits M s from width bits t p ≡ M t p
bits-other M s from width bits t p apart = rw (equal-false t s apart) refl

pub put-same : (f g : ℕ → Bool) (from width : ℕ) (bits : ℕ → Bool) (p : ℕ) → f p ≡ g p → put_bits f from width bits p ≡ put_bits g from width bits p
put-same f g from width bits p same = ap (λ b. if nat_le from p && nat_lt p (from + width) then bits (p - from) else b) same

-- ---- variable positions

bit-other : (M : Valuation) (s : ℕ) (o : Option ℕ) (b : Bool) (t p : ℕ) → t ≢ s → with_bit M s o b t p ≡ M t p
bit-other M s None b t p apart = refl
bit-other M s (Some q) b t p apart = bits-other M s q 1 (λ _. b) t p apart

bit-here : (M : Valuation) (s : ℕ) (o : Option ℕ) (b : Bool) (p : ℕ) → with_bit M s o b s p ≡ put_bit (M s) o b p
bit-here M s None b p = refl
bit-here M s (Some q) b p = bits-here M s q 1 (λ _. b) p

put_bit-same : (f g : ℕ → Bool) (o : Option ℕ) (b : Bool) (p : ℕ) → f p ≡ g p → put_bit f o b p ≡ put_bit g o b p
put_bit-same f g None b p same = same
put_bit-same f g (Some q) b p same = put-same f g q 1 (λ _. b) p same

pub picked-other : (signals : List Signal) (M : Valuation) (s : ℕ) (index : ℤ) (b : ℕ) (offsets : List ℤ) (bits : ℕ → Bool) (t p : ℕ) → t ≢ s
    → with_picked signals M s index b offsets bits t p ≡ M t p
picked-other signals M s index b [] bits t p apart = refl
picked-other signals M s index b (k ∷ offsets) bits t p apart =
    picked-other signals (with_bit M s (position_at signals s (index +ℤ k)) (bits b)) s index (b + 1) offsets bits t p apart
    ∙ bit-other M s (position_at signals s (index +ℤ k)) (bits b) t p apart

-- what is put there depends on the position's own bit alone
pub put_picked-same : (range : Range) (f g : ℕ → Bool) (index : ℤ) (b : ℕ) (offsets : List ℤ) (bits : ℕ → Bool) (p : ℕ) → f p ≡ g p
    → put_picked range f index b offsets bits p ≡ put_picked range g index b offsets bits p
put_picked-same range f g index b [] bits p same = same
put_picked-same range f g index b (k ∷ offsets) bits p same =
    put_picked-same range (put_bit f (position_in range (index +ℤ k)) (bits b)) (put_bit g (position_in range (index +ℤ k)) (bits b)) index (b + 1) offsets bits p
    (put_bit-same f g (position_in range (index +ℤ k)) (bits b) p same)

pub picked-here : (signals : List Signal) (M : Valuation) (s : ℕ) (index : ℤ) (b : ℕ) (offsets : List ℤ) (bits : ℕ → Bool) (p : ℕ) → is_signal signals s ≡ true
    → with_picked signals M s index b offsets bits s p ≡ put_picked (range_at signals s) (M s) index b offsets bits p
picked-here signals M s index b [] bits p there = refl
picked-here signals M s index b (k ∷ offsets) bits p there =
    let at : Option ℕ = position_at signals s (index +ℤ k) in
    let next : Valuation = with_bit M s at (bits b) in
    picked-here signals next s index (b + 1) offsets bits p there
    ∙ put_picked-same (range_at signals s) (next s) (put_bit (M s) (position_in (range_at signals s) (index +ℤ k)) (bits b)) index (b + 1) offsets bits p
    (bit-here M s at (bits b) p ∙ ap (λ o. put_bit (M s) o (bits b) p) (position-at signals s (index +ℤ k) there))

-- ---- words of arrays

-- the word at a place, if that lies below k
abbrev pub word_before : ℕ → Option ℕ → ℕ → Option ℕ
word_before first p k = option_and_then (λ j. if nat_lt j k then Some (first + j) else None) p

pub no_word_before : (first : ℕ) (p : Option ℕ) → word_before first p 0 ≡ None
no_word_before first None = refl
no_word_before first (Some j) = rw (le-ltb j 0 (omega arith)) refl

pub all_words_before : (first : ℕ) (p : Option ℕ) (count : ℕ) → ((j : ℕ) → p ≡ Some j → j < count) → word_before first p count ≡ option_and_then (λ k. Some (first + k)) p
all_words_before first None count within = refl
all_words_before first (Some j) count within = rw (lt-ltb j count (within j refl)) refl

-- at each step the place is the one at hand, or nothing changes
pub next_word : (first : ℕ) (p : Option ℕ) (k : ℕ)
    → ((is_at k p ≡ true) × (word_before first p k ≡ None) × (word_before first p (k + 1) ≡ Some (first + k))) ⊎ ((is_at k p ≡ false) × (word_before first p (k + 1) ≡ word_before first p k))
next_word first None k = inr (refl, refl)
next_word first (Some j) k = at (cases_order j k)
  where
    at : (j ≡ k) ⊎ ((j < k) ⊎ (k < j))
        → ((is_at k (Some j) ≡ true) × (word_before first (Some j) k ≡ None) × (word_before first (Some j) (k + 1) ≡ Some (first + k)))
        ⊎ ((is_at k (Some j) ≡ false) × (word_before first (Some j) (k + 1) ≡ word_before first (Some j) k))
    at (inl same) = inl (eq-eqb j k same, rw (le-ltb j k (omega (arith, same))) refl, rw (lt-ltb j (k + 1) (omega (arith, same))) (ap (λ n. Some (first + n)) same))
    at (inr (inl low)) = inr (equal-false j k (omega arith), rw (lt-ltb j k low, lt-ltb j (k + 1) (omega (arith, low))) refl)
    at (inr (inr high)) = inr (equal-false j k (omega arith), rw (le-ltb j k (omega (arith, high)), le-ltb j (k + 1) (omega (arith, high))) refl)
