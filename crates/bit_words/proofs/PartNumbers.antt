-- The numbers of parts of words, of words one behind the other, and of words moved.
use Rattle.std.proofs.Common.{◌≡◌, ℕ, zero, suc, ◌+◌, ◌*◌, ◌/◌, ◌%◌, ◌^◌, ◌≤◌, ◌<◌, Bool, false, List, [], ◌∷◌, ◌++◌, length, replicate, take, drop, refl, sym, ◌∙◌, ap, subst, mul_comm, add-zero, length-take-le, arith}
use Rattle.std.proofs.lemmas.Nat.{pow_pos}
use Rattle.std.proofs.Math.Nat.{add-mul-mod_self_right, mod-eq_of_lt, div-eq_of_lt, mul-add-div_right}
use Rattle.bit_words.specs.Bits.{one_if, number_of}
use Rattle.bit_words.proofs.Numbers.{double, number_of-below}

scaled : (p n : ℕ) → 2 * (p * n) ≡ (2 * p) * n
scaled p n = omega arith

-- a word above another one
pub number_of-append : (ks bs : List Bool) → number_of (ks ++ bs) ≡ number_of ks + 2 ^ length ks * number_of bs
number_of-append [] bs = omega arith
number_of-append (k ∷ ks) bs =
    let next : 2 ^ suc (length ks) * number_of bs ≡ 2 * (2 ^ length ks * number_of bs) = ap (λ p. p * number_of bs) (double (length ks)) ∙ sym (scaled (2 ^ length ks) (number_of bs)) in
    omega (arith, number_of-append ks bs, next)

-- the low bits and those above them
pub number_of-split : (n : ℕ) (bs : List Bool) → n ≤ length bs → number_of bs ≡ number_of (take n bs) + 2 ^ n * number_of (drop n bs)
number_of-split zero bs within = omega arith
number_of-split (suc n) [] within = absurd (omega (arith, within))
number_of-split (suc n) (b ∷ bs) within =
    let next : 2 ^ suc n * number_of (drop n bs) ≡ 2 * (2 ^ n * number_of (drop n bs)) = ap (λ p. p * number_of (drop n bs)) (double n) ∙ sym (scaled (2 ^ n) (number_of (drop n bs))) in
    omega (arith, number_of-split n bs (omega (arith, within)), next)

-- as many zeros below a word
pub number_of-zeros_below : (n : ℕ) (bs : List Bool) → number_of (replicate n false ++ bs) ≡ number_of bs * 2 ^ n
number_of-zeros_below zero bs = omega arith
number_of-zeros_below (suc n) bs =
    omega (arith, number_of-zeros_below n bs, ap (λ p. number_of bs * p) (double n), twice (number_of bs) (2 ^ n))
  where
    twice : (m p : ℕ) → m * (2 * p) ≡ 2 * (m * p)
    twice m p = omega arith

-- zeros above a word
pub number_of-zeros_above : (n : ℕ) (bs : List Bool) → number_of (bs ++ replicate n false) ≡ number_of bs
number_of-zeros_above n [] = none n
  where
    none : (n : ℕ) → number_of (replicate n false) ≡ 0
    none zero = refl
    none (suc n) = omega (arith, none n)
number_of-zeros_above n (b ∷ bs) = ap (λ m. one_if b + 2 * m) (number_of-zeros_above n bs)

length-low : (n : ℕ) (bs : List Bool) → n ≤ length bs → number_of (take n bs) < 2 ^ n
length-low n bs within = subst (λ m. number_of (take n bs) < 2 ^ m) (length-take-le n bs within) (number_of-below (take n bs))

-- the low bits
pub number_of-take : (n : ℕ) (bs : List Bool) → n ≤ length bs → number_of (take n bs) ≡ number_of bs % 2 ^ n
number_of-take n bs within =
    sym (ap (λ m. m % 2 ^ n) (number_of-split n bs within ∙ ap (λ m. number_of (take n bs) + m) (mul_comm (2 ^ n) (number_of (drop n bs))))
    ∙ add-mul-mod_self_right (number_of (take n bs)) (number_of (drop n bs)) (2 ^ n) ∙ mod-eq_of_lt (length-low n bs within))

-- the bits from a place on
pub number_of-drop : (n : ℕ) (bs : List Bool) → n ≤ length bs → number_of (drop n bs) ≡ number_of bs / 2 ^ n
number_of-drop n bs within =
    sym (ap (λ m. m / 2 ^ n) (number_of-split n bs within ∙ swap (number_of (take n bs)) (2 ^ n) (number_of (drop n bs)))
    ∙ mul-add-div_right (pow_pos n) (number_of (drop n bs)) (number_of (take n bs))
    ∙ ap (λ m. number_of (drop n bs) + m) (div-eq_of_lt (length-low n bs within)) ∙ add-zero (number_of (drop n bs)))
  where
    swap : (r p q : ℕ) → r + p * q ≡ q * p + r
    swap r p q = omega arith
