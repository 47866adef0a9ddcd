-- Powers by squaring, and the bits that count to a number.
use Rattle.std.proofs.Common.{◌≡◌, ℕ, suc, ◌+◌, ◌-◌, ◌*◌, ◌/◌, ◌%◌, ◌^◌, ◌<◌, ◌≤◌, cond, ap, arith, ◌∙◌, sym, refl}
use Rattle.std.specs.Prelude.{nat_le}
use Rattle.std.proofs.lemmas.Nat.{mul-mod_second, mul-mod_first, pow-mod, pow-add, mul-pow}
use Rattle.std.proofs.lemmas.Bool.{le-leb, lt-leb}
use Rattle.std.proofs.Math.Nat.{mul_assoc, pow-suc, pow-zero}
use Rattle.v_sizes.specs.Operations.{logarithm_from}

squares : (s n : ℕ) → (s * s) ^ n ≡ s ^ (n + n)
squares s n = mul-pow s s n ∙ sym (pow-add s n n)

-- a square in the place of two factors, modulo m
pub square_step : (p s n m : ℕ) → p * (s * s % m) ^ n % m ≡ p * s ^ (n + n) % m
square_step p s n m =
    sym (mul-mod_second p ((s * s % m) ^ n) m) ∙ ap (λ x. p * x % m) (pow-mod (s * s) n m) ∙ mul-mod_second p ((s * s) ^ n) m
    ∙ ap (λ x. p * x % m) (squares s n)

pub even_step : (p s k m : ℕ) → k % 2 ≡ 0 → p * (s * s % m) ^ (k / 2) % m ≡ p * s ^ k % m
even_step p s k m even =
    let twice : k / 2 + k / 2 ≡ k = omega arith in
    square_step p s (k / 2) m ∙ ap (λ n. p * s ^ n % m) twice

pub odd_step : (p s k m : ℕ) → k % 2 ≡ 1 → (p * s % m) * (s * s % m) ^ (k / 2) % m ≡ p * s ^ k % m
odd_step p s k m odd =
    let twice : k ≡ 1 + (k / 2 + k / 2) = omega arith in
    let unit : 1 * s ≡ s = omega arith in
    let one : s ^ 1 ≡ s = pow-suc s 0 ∙ ap (λ x. x * s) (pow-zero s) ∙ unit in
    square_step (p * s % m) s (k / 2) m ∙ mul-mod_first (p * s) (s ^ (k / 2 + k / 2)) m
    ∙ ap (λ x. x % m) (mul_assoc p s (s ^ (k / 2 + k / 2)))
    ∙ sym (ap (λ x. p * (x * s ^ (k / 2 + k / 2)) % m) one) ∙ sym (ap (λ x. p * x % m) (pow-add s 1 (k / 2 + k / 2)))
    ∙ sym (ap (λ n. p * s ^ n % m) twice)

-- the least number of bits is found, or one more is tried
log-next : (more bits n : ℕ) → logarithm_from (suc more) bits n ≡ cond (nat_le n (2 ^ bits)) bits (logarithm_from more (bits + 1) n)
unfolding logarithm_from
log-next more bits n = refl

log-left : (bits n : ℕ) → bits < 128 → logarithm_from (128 - bits) bits n ≡ cond (nat_le n (2 ^ bits)) bits (logarithm_from (128 - (bits + 1)) (bits + 1) n)
log-left bits n some =
    let next : 128 - bits ≡ suc (128 - (bits + 1)) = omega arith in
    ap (λ k. logarithm_from k bits n) next ∙ log-next (128 - (bits + 1)) bits n

pub log-found : (bits n : ℕ) → bits < 128 → n ≤ 2 ^ bits → logarithm_from (128 - bits) bits n ≡ bits
log-found bits n some within = log-left bits n some ∙ ap (λ b. cond b bits (logarithm_from (128 - (bits + 1)) (bits + 1) n)) (le-leb n (2 ^ bits) within)

pub log-more : (bits n : ℕ) → bits < 128 → 2 ^ bits < n → logarithm_from (128 - bits) bits n ≡ logarithm_from (128 - (bits + 1)) (bits + 1) n
log-more bits n some beyond = log-left bits n some ∙ ap (λ b. cond b bits (logarithm_from (128 - (bits + 1)) (bits + 1) n)) (lt-leb n (2 ^ bits) beyond)

pub log-last : (n : ℕ) → logarithm_from 0 128 n ≡ 128
unfolding logarithm_from
log-last n = refl

pub ruleset logarithms = (log-found, log-more, log-last)

pub ruleset powers = (even_step, odd_step)
