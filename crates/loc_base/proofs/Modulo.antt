-- Words of at most 128 bits, computed in the 128 bits of a u128. The code's literals are
-- 340282366920938463463374607431768211456, which is 2 ^ 128, and the number before it.
use Rattle.std.proofs.Common.{◌≡◌, ℕ, suc, ◌+◌, ◌-◌, ◌*◌, ◌/◌, ◌%◌, ◌^◌, ◌<◌, ◌≤◌, ap, arith, ◌∙◌, sym, subst}
use Rattle.std.specs.Prelude.{bit_or, bit_and, bit_xor}
use Rattle.std.proofs.lemmas.Nat.{mod-pow-add, mod_low, pow-add, pow_pos, shl_whole, or_shifted, or_lt, xor_lt, and_mask}
use Rattle.std.proofs.lemmas.Nat.Bits.{ones_shr}
use Rattle.std.proofs.Math.Nat.{add-mul-mod_self_right, mul-mod_left, mul_assoc, pow-le-pow_right, mul-le-mul_right, div-eq_of_lt}

-- the greatest number of w bits, from that of 128 bits
pub ones_of : (w : ℕ) → w ≤ 128 → 340282366920938463463374607431768211455 / 2 ^ (128 - w) ≡ 2 ^ w - 1
ones_of w h =
    let e : 128 - (128 - w) ≡ w = omega arith in
    ones_shr 128 (128 - w) (omega arith) ∙ ap (λ k. 2 ^ k - 1) e

-- the low bits of a number, by a mask
pub and_ones : (n w m : ℕ) → m ≡ 2 ^ w - 1 → bit_and n m ≡ n % 2 ^ w
and_ones n w m e = ap (bit_and n) e ∙ and_mask n w

-- what is known modulo 2 ^ 128 is known modulo 2 ^ w
pub mod_mod_of : (n w : ℕ) → w ≤ 128 → n % 340282366920938463463374607431768211456 % 2 ^ w ≡ n % 2 ^ w
mod_mod_of n w h =
    let e : (128 - w) + w ≡ 128 = omega arith in
    let split : n % 2 ^ 128 ≡ (n / 2 ^ w % 2 ^ (128 - w)) * 2 ^ w + n % 2 ^ w =
    ap (λ k. n % 2 ^ k) (sym e) ∙ mod-pow-add n (128 - w) w in
    let below : n % 2 ^ w < 2 ^ w = omega (arith, pow_pos w) in
    ap (λ m. m % 2 ^ w) split ∙ mod_low (n / 2 ^ w % 2 ^ (128 - w)) w (n % 2 ^ w) below

-- a multiple of m in the place of m changes no difference modulo m
difference_mod : (a b d m q : ℕ) → d ≡ suc q * m → b < m → (a + (d - b)) % m ≡ (a + (m - b)) % m
difference_mod a b d m q e below =
    let split : a + (d - b) ≡ (a + (m - b)) + q * m = omega arith in
    ap (λ n. n % m) split ∙ add-mul-mod_self_right (a + (m - b)) q m

-- the difference taken modulo 2 ^ 128
pub difference_of : (a b w : ℕ) → w ≤ 128 → b < 2 ^ w →
    (a + (340282366920938463463374607431768211456 - b)) % 340282366920938463463374607431768211456 % 2 ^ w
    ≡ (a + (2 ^ w - b)) % 2 ^ w
difference_of a b w h below =
    let e : (128 - w) + w ≡ 128 = omega arith in
    let product : 2 ^ 128 ≡ 2 ^ (128 - w) * 2 ^ w = ap (λ k. 2 ^ k) (sym e) ∙ pow-add 2 (128 - w) w in
    let some : suc (2 ^ (128 - w) - 1) ≡ 2 ^ (128 - w) = omega (arith, pow_pos (128 - w)) in
    mod_mod_of (a + (2 ^ 128 - b)) w h
    ∙ difference_mod a b (2 ^ 128) (2 ^ w) (2 ^ (128 - w) - 1) (product ∙ ap (λ q. q * 2 ^ w) (sym some)) below

-- a shift by w places or more leaves no bit
pub shifted_out : (a by w : ℕ) → w ≤ by → (a * 2 ^ by) % 2 ^ w ≡ 0
shifted_out a by w h =
    let e : (by - w) + w ≡ by = omega arith in
    let split : a * 2 ^ by ≡ a * 2 ^ (by - w) * 2 ^ w =
    ap (λ k. a * 2 ^ k) (sym e) ∙ ap (λ p. a * p) (pow-add 2 (by - w) w) ∙ sym (mul_assoc a (2 ^ (by - w)) (2 ^ w)) in
    ap (λ n. n % 2 ^ w) split ∙ mul-mod_left (a * 2 ^ (by - w)) (2 ^ w)

-- nor does one to the right
pub shifted_down : (a by w : ℕ) → a < 2 ^ w → w ≤ by → a / 2 ^ by ≡ 0
shifted_down a by w below h =
    let more : 2 ^ w ≤ 2 ^ by = pow-le-pow_right (omega arith) h in
    div-eq_of_lt (omega arith)

-- a word above another one
pub joined : (a b v w : ℕ) → a < 2 ^ v → b < 2 ^ w → v + w ≤ 128 →
    bit_or (a * 2 ^ w % 340282366920938463463374607431768211456) b ≡ a * 2 ^ w + b
joined a b v w below-a below-b h =
    ap (λ m. bit_or m b) (shl_whole a v w 128 below-a h) ∙ or_shifted a w b below-b

-- the words of `or` and `xor` stay in their width
pub or_below : (v w a b : ℕ) → v ≡ w → a < 2 ^ v → b < 2 ^ w → bit_or a b < 2 ^ v
or_below v w a b e below-a below-b = or_lt v a b below-a (subst (λ k. b < 2 ^ k) (sym e) below-b)

pub xor_below : (v w a b : ℕ) → v ≡ w → a < 2 ^ v → b < 2 ^ w → bit_xor a b < 2 ^ v
xor_below v w a b e below-a below-b = xor_lt v a b below-a (subst (λ k. b < 2 ^ k) (sym e) below-b)

-- a wider word is not less
pub wider : (v w : ℕ) → v ≤ w → 2 ^ v ≤ 2 ^ w
wider v w h = pow-le-pow_right (omega arith) h

-- a word above another one is in the width of both
pub joined_below : (a b v w : ℕ) → a < 2 ^ v → b < 2 ^ w → a * 2 ^ w + b < 2 ^ (v + w)
joined_below a b v w below-a below-b =
    let product : 2 ^ (v + w) ≡ 2 ^ v * 2 ^ w = pow-add 2 v w in
    let rows : suc a * 2 ^ w ≤ 2 ^ v * 2 ^ w = mul-le-mul_right (2 ^ w) below-a in
    omega arith
