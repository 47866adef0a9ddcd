-- The single bits of what the operations on words give, place 0 being the lowest. `bit_at n i` is the bit of n at the
-- place i. std has the laws of `bit_and`, `bit_or`, `bit_xor` (bit_at_and, bit_at_or, bit_at_xor), of a word above
-- another one (bit_at_cat_low, bit_at_cat_high), and that words with equal bits are equal (same_from_bits_below).
use Rattle.std.proofs.Common.{◌≡◌, ℕ, suc, ◌+◌, ◌-◌, ◌*◌, ◌/◌, ◌%◌, ◌^◌, ◌<◌, ◌≤◌, ap, arith, ◌∙◌, sym, subst, refl, add-zero, div-one, ◌⊎◌, inl, inr}
use Rattle.std.specs.Prelude.{Bool, true, false, ◌&&◌, ◌↔◌, IsBitSet, if◌then◌else◌}
use Rattle.std.specs.Int.{bit_at}
use Rattle.std.proofs.lemmas.Nat.{shr-shr, pow-add, pow_pos, div-add-mod', mod_below, shr_below, div-mul-add, shr_le, bit_set_by_shift, mod-pow-add}
use Rattle.std.proofs.lemmas.Nat.Bits.{bit_at_cat_low, bit_at_cat_high, bit_at_above, bit_at-lt, bit_at-zero, bit_at_ones, shr_and_one}
use Rattle.std.proofs.lemmas.Bool.Decides.{nat_tests}
use Rattle.std.proofs.lemmas.Bool.{cases_lt}
use Rattle.std.proofs.Math.Nat.{div-eq_of_lt, mul-add-div_right}
use Rattle.loc_base.specs.Word.{is_negative, extended, shifted_signed}

-- ---- a % 2 ^ w
pub bit_at-mod_low : (a w i : ℕ) → i < w → bit_at (a % 2 ^ w) i ≡ bit_at a i
bit_at-mod_low a w i h =
    sym (bit_at_cat_low (a / 2 ^ w) w (a % 2 ^ w) i h) ∙ ap (λ n. bit_at n i) (div-add-mod' a (2 ^ w))

pub bit_at-mod_high : (a w i : ℕ) → w ≤ i → bit_at (a % 2 ^ w) i ≡ 0
bit_at-mod_high a w i h = bit_at_above (a % 2 ^ w) w i (mod_below a (2 ^ w) (pow_pos w)) h

-- ---- a / 2 ^ k
pub bit_at-shr : (a k i : ℕ) → bit_at (a / 2 ^ k) i ≡ bit_at a (k + i)
bit_at-shr a k i = ap (λ n. n % 2) (shr-shr a k i)

-- ---- a * 2 ^ k
pub bit_at-shl_low : (a k i : ℕ) → i < k → bit_at (a * 2 ^ k) i ≡ 0
bit_at-shl_low a k i h = ap (λ n. bit_at n i) (sym (add-zero (a * 2 ^ k))) ∙ bit_at_cat_low a k 0 i h ∙ bit_at-zero i

pub bit_at-shl_high : (a k i : ℕ) → k ≤ i → bit_at (a * 2 ^ k) i ≡ bit_at a (i - k)
bit_at-shl_high a k i h =
    ap (λ n. bit_at n i) (sym (add-zero (a * 2 ^ k))) ∙ bit_at_cat_high a k 0 i (pow_pos k) h

-- ---- powers of two
pub double_of : (w : ℕ) → 1 ≤ w → 2 ^ w ≡ 2 * 2 ^ (w - 1)
double_of w h =
    let e : 1 + (w - 1) ≡ w = omega arith in
    ap (λ k. 2 ^ k) (sym e) ∙ pow-add 2 1 (w - 1)

-- ---- the complement of a word of w bits
-- the quotient of what is left of (x + 1 + t) * p - 1 without x * p + r
complement-div : (x r p t : ℕ) → r < p → (((x + 1 + t) * p - 1) - (x * p + r)) / p ≡ t
complement-div x r p t h =
    let left : ((x + 1 + t) * p - 1) - (x * p + r) ≡ t * p + (p - 1 - r) = omega arith in
    ap (λ n. n / p) left ∙ div-mul-add t p (p - 1 - r) (omega arith)

-- of an even number, without 1 and x, the lowest bit is the other one than that of x
odd_rest : (x q h : ℕ) → q ≡ 2 * h → x < q → (q - 1 - x) % 2 ≡ 1 - x % 2
odd_rest x q h e below = omega arith

pub bit_at-not : (w a i : ℕ) → a < 2 ^ w → i < w → bit_at ((2 ^ w - 1) - a) i ≡ 1 - bit_at a i
bit_at-not w a i below h =
    let e : (w - i) + i ≡ w = omega arith in
    let product : 2 ^ w ≡ 2 ^ (w - i) * 2 ^ i = ap (λ k. 2 ^ k) (sym e) ∙ pow-add 2 (w - i) i in
    let even : 2 ^ (w - i) ≡ 2 * 2 ^ (w - i - 1) = double_of (w - i) (omega arith) in
    let whole : a / 2 ^ i * 2 ^ i + a % 2 ^ i ≡ a = div-add-mod' a (2 ^ i) in
    let fits : a / 2 ^ i < 2 ^ (w - i) = shr_below a (w - i) i (subst (λ k. a < 2 ^ k) (sym e) below) in
    let rest : a / 2 ^ i + 1 + (2 ^ (w - i) - 1 - a / 2 ^ i) ≡ 2 ^ (w - i) = omega arith in
    let quotient : ((2 ^ w - 1) - a) / 2 ^ i ≡ 2 ^ (w - i) - 1 - a / 2 ^ i =
    ap (λ n. ((n - 1) - a) / 2 ^ i) (product ∙ ap (λ q. q * 2 ^ i) (sym rest))
    ∙ ap (λ n. (((a / 2 ^ i + 1 + (2 ^ (w - i) - 1 - a / 2 ^ i)) * 2 ^ i - 1) - n) / 2 ^ i) (sym whole)
    ∙ complement-div (a / 2 ^ i) (a % 2 ^ i) (2 ^ i) (2 ^ (w - i) - 1 - a / 2 ^ i) (mod_below a (2 ^ i) (pow_pos i)) in
    ap (λ n. n % 2) quotient ∙ odd_rest (a / 2 ^ i) (2 ^ (w - i)) (2 ^ (w - i - 1)) even fits

-- a number below twice p has p once at most
half_of : (a p : ℕ) → a < 2 * p → ((a < p) × (a / p % 2 ≡ 0)) ⊎ ((p ≤ a) × (a / p % 2 ≡ 1))
half_of a p below = elim (cases_lt a p) [
  | inl less ↦ inl (less, ap (λ n. n % 2) (div-eq_of_lt less))
  | inr least ↦ inr (least, ap (λ n. n % 2) (ap (λ n. n / p) (once least) ∙ div-mul-add 1 p (a - p) (omega arith)))
]
  where
    once : p ≤ a → a ≡ 1 * p + (a - p)
    once least = omega arith

-- ---- the highest bit of a word of w bits
pub bit_at-highest : (w a : ℕ) → 1 ≤ w → a < 2 ^ w → bit_at a (w - 1) ≡ (if is_negative w a then 1 else 0)
bit_at-highest w a least below =
    let double : 2 ^ w ≡ 2 * 2 ^ (w - 1) = double_of w least in
    grind (arith, nat_tests, half_of a (2 ^ (w - 1)) (omega arith))

-- ---- extended signed v w a
less_row : (q p : ℕ) → 0 < q → q * p - p ≡ (q - 1) * p
less_row q p some = let e : suc (q - 1) ≡ q = omega arith in omega (arith, ap (λ n. n * p) e)

extended-split : (v w a : ℕ) → v ≤ w → a + (2 ^ w - 2 ^ v) ≡ (2 ^ (w - v) - 1) * 2 ^ v + a
extended-split v w a h =
    let e : (w - v) + v ≡ w = omega arith in
    let product : 2 ^ w ≡ 2 ^ (w - v) * 2 ^ v = ap (λ k. 2 ^ k) (sym e) ∙ pow-add 2 (w - v) v in
    let rows : 2 ^ (w - v) * 2 ^ v - 2 ^ v ≡ (2 ^ (w - v) - 1) * 2 ^ v = less_row (2 ^ (w - v)) (2 ^ v) (pow_pos (w - v)) in
    omega arith

pub bit_at-extended_low : (signed : Bool) (v w a i : ℕ) → v ≤ w → i < v → bit_at (extended signed v w a) i ≡ bit_at a i
bit_at-extended_low signed v w a i wider h =
    elim (signed && is_negative v a) as (λ b. bit_at (if b then a + (2 ^ w - 2 ^ v) else a) i ≡ bit_at a i) [
      | true ↦ ap (λ n. bit_at n i) (extended-split v w a wider) ∙ bit_at_cat_low (2 ^ (w - v) - 1) v a i h
      | false ↦ refl
    ]

pub bit_at-extended_high : (signed : Bool) (v w a i : ℕ) → a < 2 ^ v → v ≤ i → i < w →
    bit_at (extended signed v w a) i ≡ (if signed && is_negative v a then 1 else 0)
bit_at-extended_high signed v w a i below h within =
    elim (signed && is_negative v a) as (λ b. bit_at (if b then a + (2 ^ w - 2 ^ v) else a) i ≡ (if b then 1 else 0)) [
      | true ↦ ap (λ n. bit_at n i) (extended-split v w a (omega arith))
          ∙ bit_at_cat_high (2 ^ (w - v) - 1) v a i below h
          ∙ bit_at_ones (w - v) (i - v) (omega arith)
      | false ↦ bit_at_above a v i below h
    ]

-- ---- shifted_signed w a by
shifted-not : (w a by i : ℕ) → a < 2 ^ w → i < w →
    bit_at ((2 ^ w - 1) - ((2 ^ w - 1) - a) / 2 ^ by) i ≡ 1 - bit_at ((2 ^ w - 1) - a) (by + i)
shifted-not w a by i below h =
    let least : ((2 ^ w - 1) - a) / 2 ^ by ≤ (2 ^ w - 1) - a = shr_le ((2 ^ w - 1) - a) by in
    let fits : ((2 ^ w - 1) - a) / 2 ^ by < 2 ^ w = omega (arith, pow_pos w) in
    bit_at-not w (((2 ^ w - 1) - a) / 2 ^ by) i fits h ∙ ap (λ n. 1 - n) (bit_at-shr ((2 ^ w - 1) - a) by i)

pub bit_at-shifted_low : (w a by i : ℕ) → a < 2 ^ w → by + i < w → bit_at (shifted_signed w a by) i ≡ bit_at a (by + i)
bit_at-shifted_low w a by i below h =
    elim (is_negative w a) as (λ b. bit_at (if b then (2 ^ w - 1) - ((2 ^ w - 1) - a) / 2 ^ by else a / 2 ^ by) i ≡ bit_at a (by + i)) [
      | true ↦ shifted-not w a by i below (omega arith)
          ∙ ap (λ n. 1 - n) (bit_at-not w a (by + i) below h)
          ∙ twice_not (bit_at a (by + i)) (bit_at-lt a (by + i))
      | false ↦ bit_at-shr a by i
    ]
  where
    twice_not : (b : ℕ) → b < 2 → 1 - (1 - b) ≡ b
    twice_not b bit = omega arith

pub bit_at-shifted_high : (w a by i : ℕ) → a < 2 ^ w → i < w → w ≤ by + i →
    bit_at (shifted_signed w a by) i ≡ (if is_negative w a then 1 else 0)
bit_at-shifted_high w a by i below h out =
    elim (is_negative w a) as (λ b. bit_at (if b then (2 ^ w - 1) - ((2 ^ w - 1) - a) / 2 ^ by else a / 2 ^ by) i ≡ (if b then 1 else 0)) [
      | true ↦ shifted-not w a by i below h
          ∙ ap (λ n. 1 - n) (bit_at_above ((2 ^ w - 1) - a) w (by + i) (omega (arith, pow_pos w)) out)
      | false ↦ bit_at-shr a by i ∙ bit_at_above a w (by + i) below out
    ]

-- ---- std's other word for a bit
pub IsBitSet-bit_at : (n i : ℕ) → IsBitSet n i ↔ (bit_at n i ≡ 1)
IsBitSet-bit_at n i =
    (λ set. sym (shr_and_one n i) ∙ (bit_set_by_shift n i).1 set, λ one. (bit_set_by_shift n i).0 (shr_and_one n i ∙ one))

-- ---- one place more of the low bits
pub mod-pow_suc : (a i : ℕ) → a % 2 ^ suc i ≡ bit_at a i * 2 ^ i + a % 2 ^ i
mod-pow_suc a i = let next : 1 + i ≡ suc i = omega arith in ap (λ k. a % 2 ^ k) (sym next) ∙ mod-pow-add a 1 i

-- ---- a + b + start: the carry into the place i, and the bit there. A difference a - b is a + !b + 1
abbrev pub carry : ℕ → ℕ → ℕ → ℕ → ℕ
carry start a b i = (a % 2 ^ i + b % 2 ^ i + start) / 2 ^ i

pub carry-zero : (start a b : ℕ) → carry start a b 0 ≡ start
carry-zero start a b =
    let e : a % 1 + b % 1 + start ≡ start = omega arith in
    ap (λ n. n / 1) e ∙ div-one start

pub carry-suc : (start a b i : ℕ) → carry start a b (suc i) ≡ (bit_at a i + bit_at b i + carry start a b i) / 2
carry-suc start a b i =
    let low-a : a % 2 ^ suc i ≡ bit_at a i * 2 ^ i + a % 2 ^ i = mod-pow_suc a i in
    let low-b : b % 2 ^ suc i ≡ bit_at b i * 2 ^ i + b % 2 ^ i = mod-pow_suc b i in
    let low : ℕ = a % 2 ^ i + b % 2 ^ i + start in
    let sum : a % 2 ^ suc i + b % 2 ^ suc i + start ≡ (bit_at a i + bit_at b i) * 2 ^ i + (a % 2 ^ i + b % 2 ^ i + start) = omega arith in
    let next : i + 1 ≡ suc i = omega arith in
    ap (λ n. n / 2 ^ suc i) sum
    ∙ ap (λ k. ((bit_at a i + bit_at b i) * 2 ^ i + low) / 2 ^ k) (sym next)
    ∙ sym (shr-shr ((bit_at a i + bit_at b i) * 2 ^ i + low) i 1)
    ∙ ap (λ n. n / 2) (mul-add-div_right (pow_pos i) (bit_at a i + bit_at b i) low)

pub bit_at-add : (start a b i : ℕ) → bit_at (a + b + start) i ≡ (bit_at a i + bit_at b i + carry start a b i) % 2
bit_at-add start a b i =
    let whole-a : a / 2 ^ i * 2 ^ i + a % 2 ^ i ≡ a = div-add-mod' a (2 ^ i) in
    let whole-b : b / 2 ^ i * 2 ^ i + b % 2 ^ i ≡ b = div-add-mod' b (2 ^ i) in
    let sum : a + b + start ≡ (a / 2 ^ i + b / 2 ^ i) * 2 ^ i + (a % 2 ^ i + b % 2 ^ i + start) = omega arith in
    ap (λ n. n / 2 ^ i % 2) sum
    ∙ ap (λ n. n % 2) (mul-add-div_right (pow_pos i) (a / 2 ^ i + b / 2 ^ i) (a % 2 ^ i + b % 2 ^ i + start))
    ∙ odd_sum (a / 2 ^ i) (b / 2 ^ i) (carry start a b i)
  where
    odd_sum : (x y c : ℕ) → (x + y + c) % 2 ≡ (x % 2 + y % 2 + c) % 2
    odd_sum x y c = omega arith

-- ---- a * b: one more place of b adds a, moved to that place, or nothing
pub mul-pow_suc : (a b i : ℕ) → a * (b % 2 ^ suc i) ≡ a * (b % 2 ^ i) + bit_at b i * (a * 2 ^ i)
mul-pow_suc a b i = omega (arith, ap (λ n. a * n) (mod-pow_suc b i))

-- ---- a < b: the highest place decides, and where it is equal the places below it
pub less-pow_suc : (a b i : ℕ) →
    (a % 2 ^ suc i < b % 2 ^ suc i) ↔ ((bit_at a i < bit_at b i) ⊎ ((bit_at a i ≡ bit_at b i) × (a % 2 ^ i < b % 2 ^ i)))
less-pow_suc a b i = decides (bit_at a i) (bit_at b i) (a % 2 ^ i) (b % 2 ^ i) (2 ^ i) (a % 2 ^ suc i) (b % 2 ^ suc i)
    (bit_at-lt a i) (bit_at-lt b i) (mod_below a (2 ^ i) (pow_pos i)) (mod_below b (2 ^ i) (pow_pos i)) (mod-pow_suc a i) (mod-pow_suc b i)
  where
    decides : (x y r s p m n : ℕ) → x < 2 → y < 2 → r < p → s < p → m ≡ x * p + r → n ≡ y * p + s → (m < n) ↔ ((x < y) ⊎ ((x ≡ y) × (r < s)))
    decides x y r s p m n bit-x bit-y below-r below-s is-m is-n = (
      λ less. elim (cases_lt x y) [
        | inl below ↦ inl below
        | inr least ↦ elim (cases_lt y x) [
          | inl above ↦
              (let one : x ≡ 1 = omega arith in
              let none : y ≡ 0 = omega arith in
              absurd (omega (arith, ap (λ k. k * p) one, ap (λ k. k * p) none)))
          | inr most ↦ (let same : x ≡ y = omega arith in inr (same, omega (arith, ap (λ k. k * p) same)))
        ]
      ],
      λ either. elim either [
        | inl below ↦
            (let none : x ≡ 0 = omega arith in
            let one : y ≡ 1 = omega arith in
            omega (arith, ap (λ k. k * p) one, ap (λ k. k * p) none))
        | inr equal ↦ omega (arith, ap (λ k. k * p) equal.0, equal.1)
      ],
    )
