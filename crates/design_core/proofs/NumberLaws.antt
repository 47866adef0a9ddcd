-- The whole number that some bits mean, where the bits are those of a number.
use Rattle.std.proofs.Common.{◌≡◌, ℕ, zero, suc, ◌+◌, ◌*◌, ◌/◌, ◌%◌, ◌^◌, ◌<◌, ◌≤◌, ap, arith, ◌∙◌, sym, refl, add-one}
use Rattle.std.specs.Prelude.{Bool, true, false, if◌then◌else◌, ◌==◌}
use Rattle.std.specs.Int.{bit_at}
use Rattle.std.proofs.lemmas.Nat.{mod-pow-add, pow-add}
use Rattle.std.proofs.lemmas.Nat.Bits.{bit_at-lt}
use Rattle.std.proofs.Math.Nat.{pow-le-pow_right}
use Rattle.loc_base.proofs.BitLaws.{bit_at-shr}
use Rattle.design_core.specs.Valuation.{bit, number}

-- the steps of the definition
pub number-zero : (f : ℕ → Bool) → number 0 f ≡ 0
unfolding number
number-zero f = refl

pub number-suc : (w : ℕ) (f : ℕ → Bool) → number (suc w) f ≡ number w f + (if f w then 2 ^ w else 0)
unfolding number
number-suc w f = refl

pub number-one_more : (w : ℕ) (f : ℕ → Bool) → number (w + 1) f ≡ number w f + (if f w then 2 ^ w else 0)
number-one_more w f = ap (λ k. number k f) (add-one w) ∙ number-suc w f

-- bits that are the same below the width mean the same number
pub number-same : (w : ℕ) (f g : ℕ → Bool) → ((b : ℕ) → b < w → f b ≡ g b) → number w f ≡ number w g
number-same zero f g same = number-zero f ∙ sym (number-zero g)
number-same (suc w) f g same =
    number-suc w f
    ∙ ap (λ n. n + (if f w then 2 ^ w else 0)) (number-same w f g (λ b h. same b (omega arith)))
    ∙ ap (λ v. number w g + (if v then 2 ^ w else 0)) (same w (omega arith))
    ∙ sym (number-suc w g)

pub power_double : (k : ℕ) → 2 ^ suc k ≡ 2 * 2 ^ k
power_double k = let next : 1 + k ≡ suc k = omega arith in ap (λ n. 2 ^ n) (sym next) ∙ pow-add 2 1 k

pub power_fits : (b : ℕ) → b < 128 → 2 ^ b + 2 ^ b ≤ 340282366920938463463374607431768211456
power_fits b h =
    let more : 2 ^ suc b ≤ 2 ^ 128 = pow-le-pow_right (omega arith) h in
    omega (arith, power_double b)

-- w bits mean a number below 2 ^ w
pub number-below : (w : ℕ) (f : ℕ → Bool) → number w f < 2 ^ w
number-below zero f = omega (arith, number-zero f)
number-below (suc w) f =
    omega (arith, number-suc w f, number-below w f, at_most (f w) (2 ^ w), power_double w)
  where
    at_most : (b : Bool) (n : ℕ) → (if b then n else 0) ≤ n
    at_most true n = omega arith
    at_most false n = omega arith

bit_choice : (x p : ℕ) → x < 2 → (if x == 1 then p else 0) ≡ x * p
bit_choice zero p h = omega arith
bit_choice (suc zero) p h = omega arith
bit_choice (suc (suc x)) p h = absurd (omega arith)

-- the bits of a number mean it, modulo 2 ^ w
pub number-bit : (w v : ℕ) → number w (bit v) ≡ v % 2 ^ w
number-bit zero v = number-zero (bit v) ∙ omega arith
number-bit (suc w) v =
    number-suc w (bit v)
    ∙ ap (λ n. n + (if bit_at v w == 1 then 2 ^ w else 0)) (number-bit w v)
    ∙ ap (λ n. v % 2 ^ w + n) (bit_choice (bit_at v w) (2 ^ w) (bit_at-lt v w))
    ∙ omega (arith, mod-pow-add v 1 w, ap (λ k. v % 2 ^ k) next)
  where
    next : 1 + w ≡ suc w
    next = omega arith

-- some bits of a number, from a position on
pub number-part : (w from v : ℕ) → number w (λ b. bit v (from + b)) ≡ v / 2 ^ from % 2 ^ w
number-part w from v =
    number-same w (λ b. bit v (from + b)) (bit (v / 2 ^ from)) (λ b h. ap (λ n. n == 1) (sym (bit_at-shr v from b)))
    ∙ number-bit w (v / 2 ^ from)
