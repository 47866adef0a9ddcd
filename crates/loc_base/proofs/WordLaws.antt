-- Laws that show the definitions of words right: what a word means as two's complement, that a wider word of a signed
-- one means the same number, and that the signed shift to the right is the floor of a quotient.
use Rattle.std.proofs.Common.{◌≡◌, ℕ, ◌+◌, ◌-◌, ◌*◌, ◌/◌, ◌^◌, ◌<◌, ◌≤◌, ap, arith, ◌∙◌, sym, refl, inl, inr}
use Rattle.std.specs.Prelude.{true, false, ℤ, pos, negsuc, neg_ℤ, ◌≤ℤ◌, ◌<ℤ◌}
use Rattle.std.specs.Int.{int_div_euclid}
use Rattle.std.proofs.lemmas.Int.{ints}
use Rattle.std.proofs.lemmas.Bool.{cases_lt, le-leb, lt-leb}
use Rattle.std.proofs.lemmas.Nat.{shr_le}
use Rattle.loc_base.proofs.BitLaws.{double_of}
use Rattle.loc_base.proofs.Modulo.{wider}
use Rattle.loc_base.specs.Word.{is_negative, signed_value, extended, shifted_signed}

-- a word whose highest bit is 0 means itself
pub signed_value-low : (w a : ℕ) → a < 2 ^ (w - 1) → signed_value w a ≡ pos a
signed_value-low w a h = let test : is_negative w a ≡ false = lt-leb (2 ^ (w - 1)) a h in rw test

-- a word whose highest bit is 1 means a number below 0
pub signed_value-high : (w a : ℕ) → a < 2 ^ w → 2 ^ (w - 1) ≤ a → signed_value w a ≡ negsuc ((2 ^ w - 1) - a)
signed_value-high w a below h =
    let test : is_negative w a ≡ true = le-leb (2 ^ (w - 1)) a h in rw test (omega (arith, ints))

-- the numbers that words of w bits mean
pub signed_value-least : (w a : ℕ) → 1 ≤ w → a < 2 ^ w → neg_ℤ (pos (2 ^ (w - 1))) ≤ℤ signed_value w a
signed_value-least w a some below =
    let double : 2 ^ w ≡ 2 * 2 ^ (w - 1) = double_of w some in
    elim (cases_lt a (2 ^ (w - 1))) [
      | inl low ↦ omega (arith, ints, signed_value-low w a low)
      | inr high ↦ omega (arith, ints, signed_value-high w a below high)
    ]

pub signed_value-most : (w a : ℕ) → 1 ≤ w → a < 2 ^ w → signed_value w a <ℤ pos (2 ^ (w - 1))
signed_value-most w a some below = elim (cases_lt a (2 ^ (w - 1))) [
  | inl low ↦ omega (arith, ints, signed_value-low w a low)
  | inr high ↦ omega (arith, ints, signed_value-high w a below high)
]

-- a word carried to a wider one means the same number, signed and unsigned
extended-low : (v w a : ℕ) → a < 2 ^ (v - 1) → extended true v w a ≡ a
extended-low v w a h = let test : is_negative v a ≡ false = lt-leb (2 ^ (v - 1)) a h in rw test

extended-high : (v w a : ℕ) → 2 ^ (v - 1) ≤ a → extended true v w a ≡ a + (2 ^ w - 2 ^ v)
extended-high v w a h = let test : is_negative v a ≡ true = le-leb (2 ^ (v - 1)) a h in rw test

pub extended-signed : (v w a : ℕ) → 1 ≤ v → v ≤ w → a < 2 ^ v → signed_value w (extended true v w a) ≡ signed_value v a
extended-signed v w a some h below =
    let double-v : 2 ^ v ≡ 2 * 2 ^ (v - 1) = double_of v some in
    let double-w : 2 ^ w ≡ 2 * 2 ^ (w - 1) = double_of w (omega arith) in
    let more : 2 ^ v ≤ 2 ^ w = wider v w h in
    elim (cases_lt a (2 ^ (v - 1))) [
      | inl low ↦
          ap (signed_value w) (extended-low v w a low)
          ∙ signed_value-low w a (omega arith)
          ∙ sym (signed_value-low v a low)
      | inr high ↦
          ap (signed_value w) (extended-high v w a high)
          ∙ signed_value-high w (a + (2 ^ w - 2 ^ v)) (omega arith) (omega arith)
          ∙ ap negsuc (rest a (2 ^ v) (2 ^ w) below more)
          ∙ sym (signed_value-high v a below high)
    ]
  where
    rest : (n p q : ℕ) → n < p → p ≤ q → (q - 1) - (n + (q - p)) ≡ (p - 1) - n
    rest n p q less most = omega arith

pub extended-unsigned : (v w a : ℕ) → extended false v w a ≡ a
extended-unsigned v w a = refl

-- the signed shift is the division by 2 ^ by that rounds down
shifted-low : (w a by : ℕ) → a < 2 ^ (w - 1) → shifted_signed w a by ≡ a / 2 ^ by
shifted-low w a by h = let test : is_negative w a ≡ false = lt-leb (2 ^ (w - 1)) a h in rw test

shifted-high : (w a by : ℕ) → 2 ^ (w - 1) ≤ a → shifted_signed w a by ≡ (2 ^ w - 1) - ((2 ^ w - 1) - a) / 2 ^ by
shifted-high w a by h = let test : is_negative w a ≡ true = le-leb (2 ^ (w - 1)) a h in rw test

pub shifted_signed-floor : (w a by : ℕ) → 1 ≤ w → a < 2 ^ w →
    signed_value w (shifted_signed w a by) ≡ int_div_euclid (signed_value w a) (pos (2 ^ by))
shifted_signed-floor w a by some below =
    let double : 2 ^ w ≡ 2 * 2 ^ (w - 1) = double_of w some in
    let floor : ℤ → ℤ = λ z. int_div_euclid z (pos (2 ^ by)) in
    elim (cases_lt a (2 ^ (w - 1))) [
      | inl low ↦
          (let less : a / 2 ^ by ≤ a = shr_le a by in
          ap (signed_value w) (shifted-low w a by low)
          ∙ signed_value-low w (a / 2 ^ by) (omega arith)
          ∙ ap floor (sym (signed_value-low w a low)))
      | inr high ↦
          (let less : ((2 ^ w - 1) - a) / 2 ^ by ≤ (2 ^ w - 1) - a = shr_le ((2 ^ w - 1) - a) by in
          ap (signed_value w) (shifted-high w a by high)
          ∙ signed_value-high w ((2 ^ w - 1) - ((2 ^ w - 1) - a) / 2 ^ by) (omega arith) (omega arith)
          ∙ ap negsuc (twice (2 ^ w - 1) (((2 ^ w - 1) - a) / 2 ^ by) (omega arith))
          ∙ ap floor (sym (signed_value-high w a below high)))
    ]
  where
    twice : (n m : ℕ) → m ≤ n → n - (n - m) ≡ m
    twice n m most = omega arith
