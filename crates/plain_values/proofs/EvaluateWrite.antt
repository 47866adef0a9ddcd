-- What replaces some bits of a word, and of a valuation.
use Rattle.std.proofs.Common.{◌≡◌, ◌≢◌, ℕ, zero, suc, ◌+◌, ◌-◌, ◌*◌, ◌/◌, ◌%◌, ◌^◌, ◌<◌, ◌≤◌, max, List, length, set, ap, arith, ◌∙◌, sym, refl, inl, inr}
use Rattle.std.specs.Prelude.{Bool, true, false, ◌&&◌, ◌||◌, ◌==◌, nat_le, nat_lt, if◌then◌else◌, bit_or, slice_get, Some}
use Rattle.std.specs.Option.{option_map_or}
use Rattle.std.specs.Int.{bit_at}
use Rattle.std.proofs.Math.Path.{fun_ext}
use Rattle.std.proofs.lemmas.Nat.Bits.{bit_at_or, bit_at-lt, bit_at_above}
use Rattle.std.proofs.lemmas.Bool.{cases_lt, le-leb, lt-leb, lt-ltb, le-ltb, eqb-true}
use Rattle.std.proofs.lemmas.Bool.Decides.{nat_tests}
use Rattle.loc_base.specs.declared.bits.Bits.{Bits}
use Rattle.loc_base.specs.Bits.{bit_of, value_of}
use Rattle.loc_base.proofs.ShelfLists.{slice_get-set_same, slice_get-set_other}
use Rattle.loc_base.proofs.BitLaws.{bit_at-shr, bit_at-mod_low, bit_at-mod_high, bit_at-shl_low, bit_at-shl_high}
use Rattle.design_core.specs.Operator.{resized}
use Rattle.design_core.specs.Valuation.{bit}
use Rattle.design_core.specs.Store.{with_bits}
use Rattle.design_core.specs.Words.{valuation_of}

-- ---- numbers
bit_of_or : (a b : ℕ) → a < 2 → b < 2 → (max a b == 1) ≡ ((a == 1) || (b == 1))
bit_of_or zero zero ha hb = refl
bit_of_or zero (suc zero) ha hb = refl
bit_of_or (suc zero) zero ha hb = refl
bit_of_or (suc zero) (suc zero) ha hb = refl
bit_of_or (suc (suc a)) b ha hb = absurd (omega arith)
bit_of_or zero (suc (suc b)) ha hb = absurd (omega arith)
bit_of_or (suc zero) (suc (suc b)) ha hb = absurd (omega arith)

pub bit-or : (a b p : ℕ) → bit (bit_or a b) p ≡ (bit a p || bit b p)
bit-or a b p = ap (λ n. n == 1) (bit_at_or a b p) ∙ bit_of_or (bit_at a p) (bit_at b p) (bit_at-lt a p) (bit_at-lt b p)

-- a shift up by k places in w bits
pub bit-shl : (a k w p : ℕ) → p < w → bit (a * 2 ^ k % 2 ^ w) p ≡ (nat_le k p && bit a (p - k))
bit-shl a k w p h =
    ap (λ n. n == 1) (bit_at-mod_low (a * 2 ^ k) w p h)
    ∙ elim (cases_lt p k) [
      | inl low ↦ ap (λ n. n == 1) (bit_at-shl_low a k p low) ∙ ap (λ b. b && bit a (p - k)) (sym (lt-leb k p low))
      | inr high ↦ ap (λ n. n == 1) (bit_at-shl_high a k p high) ∙ ap (λ b. b && bit a (p - k)) (sym (le-leb k p high))
    ]

pub bit-shr : (a k p : ℕ) → bit (a / 2 ^ k) p ≡ bit a (k + p)
bit-shr a k p = ap (λ n. n == 1) (bit_at-shr a k p)

pub bit-high : (a w p : ℕ) → a < 2 ^ w → w ≤ p → bit a p ≡ false
bit-high a w p below h = ap (λ n. n == 1) (bit_at_above a w p below h)

-- the bits from k on, and those below k
pub above : (a k w p : ℕ) → p < w → bit (a / 2 ^ k * 2 ^ k % 2 ^ w) p ≡ (nat_le k p && bit a p)
above a k w p h =
    bit-shl (a / 2 ^ k) k w p h
    ∙ elim (cases_lt p k) [
      | inl low ↦ ap (λ b. b && bit (a / 2 ^ k) (p - k)) (lt-leb k p low) ∙ ap (λ b. b && bit a p) (sym (lt-leb k p low))
      | inr high ↦ ap (λ b. nat_le k p && b) (bit-shr a k (p - k) ∙ ap (bit a) (omega arith))
    ]

pub below : (a k w p : ℕ) → k ≤ w → p < w → bit (a * 2 ^ (w - k) % 2 ^ w / 2 ^ (w - k)) p ≡ (nat_lt p k && bit a p)
below a k w p within h =
    bit-shr (a * 2 ^ (w - k) % 2 ^ w) (w - k) p
    ∙ elim (cases_lt p k) [
      | inl low ↦
          bit-shl a (w - k) w (w - k + p) (omega arith)
          ∙ ap (λ b. b && bit a (w - k + p - (w - k))) (le-leb (w - k) (w - k + p) (omega arith))
          ∙ ap (bit a) (omega arith)
          ∙ ap (λ b. b && bit a p) (sym (lt-ltb p k low))
      | inr high ↦
          ap (λ n. n == 1) (bit_at-mod_high (a * 2 ^ (w - k)) w (w - k + p) (omega arith))
          ∙ ap (λ b. b && bit a p) (sym (le-ltb p k high))
    ]

-- a word carried to another width keeps its bits
pub bit-resized : (to from v q : ℕ) → q < to → bit (resized to false from v) q ≡ bit v q
bit-resized to from v q h =
    elim (nat_le from to) as (λ b. bit (if b then v else v % 2 ^ to) q ≡ bit v q) [
      | true ↦ refl
      | false ↦ ap (λ n. n == 1) (bit_at-mod_low v to q h)
    ]

-- and so does a whole word
pub whole-resized : (from width w v old new p : ℕ) → from + width ≤ width → old < 2 ^ width → new < 2 ^ width → new ≡ resized width false w v
    → bit new p ≡ (if nat_le from p && nat_lt p (from + width) then bit v (p - from) else bit old p)
whole-resized from width w v old new p within one other is = elim (cases_lt p width) [
  | inl low ↦
      rw (le-leb from p (omega (arith, within)), lt-ltb p (from + width) (omega (arith, low)))
      (ap (λ n. bit n p) is ∙ bit-resized width w v p low ∙ ap (bit v) (omega (arith, within)))
  | inr high ↦
      rw (le-leb from p (omega (arith, within, high)), le-ltb p (from + width) (omega (arith, within, high)))
      (bit-high new width p other high ∙ sym (bit-high old width p one high))
]

-- which of the bits stands at a place
pub chosen_bit : (f s p : ℕ) (old new : Bool)
    → (((nat_le (f + s) p && old) || (nat_lt p f && old)) || (nat_le f p && (nat_lt (p - f) s && new))) ≡ (if nat_le f p && nat_lt p (f + s) then new else old)
chosen_bit f s p old new = elim (cases_lt p f) [
  | inl low ↦ rw (lt-leb (f + s) p (omega arith), lt-ltb p f low, lt-leb f p low) (bare old)
  | inr high ↦ elim (cases_lt p (f + s)) [
    | inl less ↦ rw (lt-leb (f + s) p less, le-ltb p f high, le-leb f p high, lt-ltb (p - f) s (omega arith), lt-ltb p (f + s) less) refl
    | inr most ↦ rw (le-leb (f + s) p most, le-ltb p f high, le-leb f p high, le-ltb (p - f) s (omega arith), le-ltb p (f + s) most) (bare_twice old)
  ]
]
  where
    bare : (b : Bool) → (b || false) ≡ b
    bare true = refl
    bare false = refl

    bare_twice : (b : Bool) → ((b || false) || false) ≡ b
    bare_twice true = refl
    bare_twice false = refl

-- ---- valuations
pub written : (words : List Bits) (signal : ℕ) (old new : Bits) (from width : ℕ) (bits : ℕ → Bool) → signal < length words → slice_get words signal ≡ Some old
    → ((p : ℕ) → bit (value_of new) p ≡ (if nat_le from p && nat_lt p (from + width) then bits (p - from) else bit (value_of old) p))
    → valuation_of (set words signal new) ≡ with_bits (valuation_of words) signal from width bits
written words signal old new from width bits h is each =
    fun_ext (λ s. fun_ext (λ p. at s p (s == signal) refl))
  where
    at : (s p : ℕ) (b : Bool) → (s == signal) ≡ b → valuation_of (set words signal new) s p ≡ with_bits (valuation_of words) signal from width bits s p
    at s p true e =
        let same : s ≡ signal = eqb-true s signal e in
        rw (e, same)
        (ap (λ o. option_map_or (λ w. bit_of w p) o false) (slice_get-set_same words signal new h)
        ∙ each p
        ∙ ap (λ o. if nat_le from p && nat_lt p (from + width) then bits (p - from) else option_map_or (λ w. bit_of w p) o false) (sym is))
    at s p false e =
        rw e (ap (λ o. option_map_or (λ w. bit_of w p) o false) (slice_get-set_other words signal s new (other e)))
      where
        other : (s == signal) ≡ false → s ≢ signal
        other t = grind (arith, nat_tests)
