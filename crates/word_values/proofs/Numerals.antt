-- Decimal digits, as the reader of numbers has them.
use Rattle.std.proofs.Common.{ℕ, ◌≡◌, ◌≢◌, ◌<◌, ◌≤◌, ◌^◌, ◌&&◌, Bool, true, false, List, [], ◌∷◌, length, ap, sym, refl, subst, ◌∙◌, arith, inl, inr, Some, None}
use Rattle.std.specs.Prelude.{if◌then◌else◌, nat_le, Ok, Err}
use Rattle.std.specs.List.{list_all}
use Rattle.std.specs.Char.{digit_value}
use Rattle.std.specs.Str.Parse.{AllDigits, ParsesUnsigned, digits_value, without_leading_plus}
use Rattle.std.proofs.lemmas.Bool.{and_parts, le-leb}
use Rattle.std.proofs.lemmas.Bool.Decides.{leb_tells}
use Rattle.std.proofs.lemmas.Grind.{common_steps}
use Rattle.loc_base.specs.Ascii.{is_decimal}
use Rattle.loc_base.proofs.ShelfBools.{equal-false}
use Rattle.word_values.specs.Values.{is_numeral, number_of}

-- ---- a digit
decimal-bounds : (c : ℕ) → is_decimal c ≡ true → (48 ≤ c) × (c ≤ 57)
decimal-bounds c is = grind (arith, common_steps)

decimal-digit : (c : ℕ) → is_decimal c ≡ true → digit_value c < 10
decimal-digit c is = let bounds = decimal-bounds c is in grind (arith, common_steps)

-- ---- digits
all-digits : (ds : List ℕ) → list_all is_decimal ds ≡ true → AllDigits 10 ds
all-digits [] all = tt
all-digits (c ∷ cs) all = let both = and_parts _ _ all in (decimal-digit c both.0, all-digits cs both.1)

-- no plus stands before them
no-plus : (ds : List ℕ) → list_all is_decimal ds ≡ true → without_leading_plus ds ≡ ds
no-plus [] all = refl
no-plus (c ∷ cs) all =
    let bounds = decimal-bounds c (and_parts _ _ all).0 in
    let other : c ≢ 43 = λ e. omega (arith, e, bounds.0) in
    rw (equal-false c 43 other) refl

-- ---- numerals
record IsNumeral (word : List ℕ) : Type 0 where
  some : 1 ≤ length word
  digits : list_all is_decimal word ≡ true

numeral-parts : (word : List ℕ) → is_numeral word ≡ true → IsNumeral word
numeral-parts word is =
    let both = and_parts (nat_le 1 (length word) && nat_le (length word) 10) (list_all is_decimal word) is in
    record {
      some = at_least (length word) (and_parts (nat_le 1 (length word)) (nat_le (length word) 10) both.0).0;
      digits = both.1;
    }
  where
    at_least : (n : ℕ) → nat_le 1 n ≡ true → 1 ≤ n
    at_least n is = grind (arith, common_steps)

-- ---- the test of a number
within : (b : Bool) (value most : ℕ) → b ≡ true → value ≤ most
    → Some value ≡ (if b && nat_le value most then Some value else None)
within b value most is below = rw (is, le-leb value most below) refl

beyond : (b : Bool) (value most : ℕ) → most < value → None ≡ (if b && nat_le value most then Some value else None)
beyond true value most over = rw (not-le value most over) refl
  where
    not-le : (m n : ℕ) → n < m → nat_le m n ≡ false
    not-le m n over = elim (leb_tells m n) [ inl both ↦ absurd (omega (arith, both.1, over)) | inr both ↦ both.0 ]
beyond false value most over = refl

-- ---- what a word that was tried as a number is
pub numeral-false : (most : ℕ) (word : List ℕ) → is_numeral word ≡ false → None ≡ number_of most word
numeral-false most word is = none (is_numeral word) (digits_value 10 word) most is
  where
    none : (b : Bool) (value most : ℕ) → b ≡ false → None ≡ (if b && nat_le value most then Some value else None)
    none b value most is = rw is refl

-- what the reader of numbers read is the number
read-value : (word : List ℕ) (E : Type 0) (n : ℕ) → is_numeral word ≡ true → ParsesUnsigned {E = E} 32 10 word (Ok n)
    → n ≡ digits_value 10 word
read-value word E n is parses =
    parses.1 ∙ ap (digits_value 10) (no-plus word (numeral-parts word is).digits)

pub number-within : (most : ℕ) (word : List ℕ) (E : Type 0) (n : ℕ) → is_numeral word ≡ true
    → ParsesUnsigned {E = E} 32 10 word (Ok n) → n ≤ most → Some n ≡ number_of most word
number-within most word E n is parses below =
    let same = read-value word E n is parses in
    ap Some same ∙ within (is_numeral word) (digits_value 10 word) most is (subst (λ v. v ≤ most) same below)

pub number-beyond : (most : ℕ) (word : List ℕ) (E : Type 0) (n : ℕ) → is_numeral word ≡ true
    → ParsesUnsigned {E = E} 32 10 word (Ok n) → most < n → None ≡ number_of most word
number-beyond most word E n is parses over =
    let same = read-value word E n is parses in
    beyond (is_numeral word) (digits_value 10 word) most (subst (λ v. most < v) same over)

-- digits that it refuses write a number that is too large
pub number-none : (most : ℕ) (word : List ℕ) (E : Type 0) (error : E) → is_numeral word ≡ true → most < 2 ^ 32
    → ParsesUnsigned {E = E} 32 10 word (Err error) → None ≡ number_of most word
number-none most word E error is small refused =
    let numeral = numeral-parts word is in
    let same = no-plus word numeral.digits in
    elim (leb_tells (digits_value 10 word) most) [
      | inl both ↦ absurd (refused (
        subst (λ w. (0 < length w) × AllDigits 10 w) (sym same)
            (omega (arith, numeral.some), all-digits word numeral.digits),
        subst (λ w. digits_value 10 w < 2 ^ 32) (sym same) (omega (arith, both.1, small)),
      ))
      | inr both ↦ beyond (is_numeral word) (digits_value 10 word) most both.1
    ]
