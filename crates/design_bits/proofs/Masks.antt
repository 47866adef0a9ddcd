-- The bits of masks.
use Rattle.std.proofs.Common.{ℕ, ◌≡◌, ◌<◌, ◌≤◌, ◌+◌, ◌-◌, ◌*◌, ◌^◌, ◌%◌, false, refl, sym, ◌∙◌, ap, arith, ◌⊎◌, inl, inr, min, max, bit_and, bit_or}
use Rattle.std.specs.Prelude.{◌==◌, not, ◌&&◌, ◌||◌, nat_lt}
use Rattle.std.specs.Int.{bit_at, bit_not, w128}
use Rattle.std.proofs.lemmas.Nat.Bits.{bit_at_and, bit_at_or, bit_at_not, bit_at_ones, bit_at_above, bit_at-lt, bit_at-zero}
use Rattle.std.proofs.lemmas.Nat.{pow_pos}
use Rattle.std.proofs.lemmas.Bool.{lt-ltb, le-ltb, cases_lt}
use Rattle.std.proofs.lemmas.Bool.Decides.{nat_tests}
use Rattle.design_core.specs.Drives.{is_among}
use Rattle.design_core.specs.Valuation.{bit}
use Rattle.design_core.proofs.NumberLaws.{power_fits}

-- a bit is 0 or 1
two-cases : (n : ℕ) → n < 2 → (n ≡ 0) ⊎ (n ≡ 1)
two-cases n below = elim (cases_lt n 1) [ inl lt ↦ inl (omega (arith, lt)) | inr ge ↦ inr (omega (arith, ge, below)) ]

max-bit : (a b : ℕ) → a < 2 → b < 2 → (max a b == 1) ≡ (a == 1 || b == 1)
max-bit a b p q = at (two-cases a p) (two-cases b q)
  where
    at : (a ≡ 0) ⊎ (a ≡ 1) → (b ≡ 0) ⊎ (b ≡ 1) → (max a b == 1) ≡ (a == 1 || b == 1)
    at (inl e) (inl f) = rw e (rw f refl)
    at (inl e) (inr f) = rw e (rw f refl)
    at (inr e) (inl f) = rw e (rw f refl)
    at (inr e) (inr f) = rw e (rw f refl)

min-bit : (a b : ℕ) → a < 2 → b < 2 → (min a b == 1) ≡ (a == 1 && b == 1)
min-bit a b p q = at (two-cases a p) (two-cases b q)
  where
    at : (a ≡ 0) ⊎ (a ≡ 1) → (b ≡ 0) ⊎ (b ≡ 1) → (min a b == 1) ≡ (a == 1 && b == 1)
    at (inl e) (inl f) = rw e (rw f refl)
    at (inl e) (inr f) = rw e (rw f refl)
    at (inr e) (inl f) = rw e (rw f refl)
    at (inr e) (inr f) = rw e (rw f refl)

opposite-bit : (a : ℕ) → a < 2 → (1 - a == 1) ≡ not (a == 1)
opposite-bit a p = at (two-cases a p)
  where
    at : (a ≡ 0) ⊎ (a ≡ 1) → (1 - a == 1) ≡ not (a == 1)
    at (inl e) = rw e refl
    at (inr e) = rw e refl

pub bit-or : (m n b : ℕ) → bit (bit_or m n) b ≡ (bit m b || bit n b)
bit-or m n b = ap (λ k. k == 1) (bit_at_or m n b) ∙ max-bit (bit_at m b) (bit_at n b) (bit_at-lt m b) (bit_at-lt n b)

pub bit-and : (m n b : ℕ) → bit (bit_and m n) b ≡ (bit m b && bit n b)
bit-and m n b = ap (λ k. k == 1) (bit_at_and m n b) ∙ min-bit (bit_at m b) (bit_at n b) (bit_at-lt m b) (bit_at-lt n b)

pub bit-not : (n b : ℕ) → n < 2 ^ 128 → b < 128 → bit (bit_not w128 n) b ≡ not (bit n b)
bit-not n b fits below = ap (λ k. k == 1) (bit_at_not w128 n b fits below) ∙ opposite-bit (bit_at n b) (bit_at-lt n b)

pub bit-zero : (b : ℕ) → bit 0 b ≡ false
bit-zero b = ap (λ k. k == 1) (bit_at-zero b)

pub bit-ones : (w b : ℕ) → bit (2 ^ w - 1) b ≡ nat_lt b w
bit-ones w b = at (cases_lt b w)
  where
    at : (b < w) ⊎ (w ≤ b) → bit (2 ^ w - 1) b ≡ nat_lt b w
    at (inl lt) = ap (λ k. k == 1) (bit_at_ones w b lt) ∙ sym (lt-ltb b w lt)
    at (inr ge) = ap (λ k. k == 1) (bit_at_above (2 ^ w - 1) w b (omega (arith, pow_pos w)) ge) ∙ sym (le-ltb b w ge)

-- the lowest bits of 128
pub ones-most : (b w : ℕ) → b < 128 → 128 ≤ w → bit 340282366920938463463374607431768211455 b ≡ nat_lt b w
ones-most b w below most = bit-ones 128 b ∙ lt-ltb b 128 below ∙ sym (lt-ltb b w (omega (arith, below, most)))

pub ones-shl : (w b : ℕ) → w < 128 → bit (1 * 2 ^ w % 340282366920938463463374607431768211456 - 1) b ≡ nat_lt b w
ones-shl w b below =
    let some : 1 ≤ 2 ^ w = pow_pos w in
    let whole : 1 * 2 ^ w % 340282366920938463463374607431768211456 ≡ 2 ^ w = omega (arith, power_fits w below, some) in
    ap (λ n. bit (n - 1) b) whole ∙ bit-ones w b

pub run-bits : (from width b : ℕ) → (nat_lt b (from + width) && not (nat_lt b from)) ≡ is_among from width b
run-bits from width b = grind (arith, nat_tests)

pub ruleset ones_bits = (ones-shl, ones-most)

pub ruleset mask_bits = (bit-and, bit-not, run-bits)
