-- Numbers in decimal.
use Rattle.std.proofs.Common.{◌≡◌, ◌≢◌, ℕ, ◌+◌, ◌*◌, ◌-◌, ◌<◌, ◌≤◌, ◌^◌, true, false, List, length, get_or, take, refl, ap, sym, ◌∙◌, subst, arith, leb}
use Rattle.std.specs.Prelude.{decimal}
use Rattle.std.specs.Str.Parse.{digits_value, AllDigits}
use Rattle.std.specs.Char.{is_ascii_digit, digit_value}
use Rattle.std.specs.Int.{IsInRange}
use Rattle.std.proofs.lemmas.Bool.{both_ways, and_parts, and_from, le-leb, leb-true}
use Rattle.std.proofs.lemmas.Fmt.{decimal_digit, decimal_nonempty, first_decimal, decimal_is_IsNumeral, decimal-digits_value, digits_value-decimal}
use Rattle.std.proofs.lemmas.Str.Parse.{IsNumeralModel, digit_at, digits_value-take-le}
use Rattle.std.proofs.lemmas.Int.Digits.{digits_value_more, digits_more}
use Rattle.std.proofs.lemmas.Bool.Decides.{nat_tests}
use Rattle.proof_check.specs.Text.{IsUpTo}

own : IsNumeralModel (AllDigits 10) (digits_value 10)
own = record { to = λ ds h. h; from = λ ds h. h; same = λ ds h. refl }

fits : (most n : ℕ) → most < 2 ^ 32 → IsUpTo most n → n < 2 ^ 64
fits most n small up = let le : n ≤ most = up.1 in omega arith

-- the empty word is no number
pub empty-no_number : (word : List ℕ) (most : ℕ) → most < 2 ^ 32 → length word ≡ 0 → (n : ℕ) → IsUpTo most n → word ≢ decimal n
empty-no_number word most small none n up e = let some = decimal_nonempty n (fits most n small up) in let same = ap (λ (w : List ℕ). length w) e in omega arith

-- nor is one with a leading zero
pub zero-no_number : (word : List ℕ) (most : ℕ) → most < 2 ^ 32 → get_or word 0 0 ≡ 48 → (n : ℕ) → IsUpTo most n → word ≢ decimal n
zero-no_number word most small zero n up e = let first = first_decimal n up.0 (fits most n small up) in let same = ap (λ (w : List ℕ). get_or w 0 0) e in omega arith

-- nor one with a byte that is no digit
pub other-no_number : (word : List ℕ) (most i : ℕ) → most < 2 ^ 32 → i < length word → is_ascii_digit (get_or word i 0) ≡ false → (n : ℕ) → IsUpTo most n → word ≢ decimal n
other-no_number word most i small within other n up e =
    let digits : AllDigits 10 word = subst (AllDigits 10) (sym e) ((decimal_is_IsNumeral n (fits most n small up)).0.1) in
    let here : IsInRange 48 57 (get_or word i 0) = digit_at word i digits within in
    both_ways (is_ascii_digit (get_or word i 0)) other (and_from (leb 48 (get_or word i 0)) (leb (get_or word i 0) 57) (le-leb 48 (get_or word i 0) here.0) (le-leb (get_or word i 0) 57 here.1))

-- nor one whose first digits are more than the most
pub more-no_number : (word : List ℕ) (most i : ℕ) → most < 2 ^ 32 → most < digits_value 10 (take i word) → (n : ℕ) → IsUpTo most n → word ≢ decimal n
more-no_number word most i small more n up e =
    let value : digits_value 10 word ≡ n = ap (digits_value 10) e ∙ digits_value-decimal own n (fits most n small up) in
    let prefix = digits_value-take-le 10 word i (omega arith) in
    let le : n ≤ most = up.1 in
    omega arith

-- one more digit
pub digits-step : (word : List ℕ) (i : ℕ) → i < length word → AllDigits 10 (take i word) → is_ascii_digit (get_or word i 0) ≡ true
    → AllDigits 10 (take (i + 1) word) × (digits_value 10 (take (i + 1) word) ≡ digits_value 10 (take i word) * 10 + (get_or word i 0 - 48))
digits-step word i within digits is =
    let parts = and_parts (leb 48 (get_or word i 0)) (leb (get_or word i 0) 57) is in
    let low = leb-true 48 (get_or word i 0) parts.0 in
    let high = leb-true (get_or word i 0) 57 parts.1 in
    let value : digit_value (get_or word i 0) ≡ get_or word i 0 - 48 = grind (arith, nat_tests) in
    (digits_more 10 word i within digits (omega arith), digits_value_more 10 word i within ∙ ap (λ d. digits_value 10 (take i word) * 10 + d) value)

-- digits without a leading zero are their value in decimal
pub digits-number : (word : List ℕ) (most : ℕ) → most < 2 ^ 32 → AllDigits 10 word → 0 < length word → get_or word 0 0 ≢ 48 → digits_value 10 word ≤ most → IsUpTo most (digits_value 10 word) × (word ≡ decimal (digits_value 10 word))
digits-number word most small digits some no_zero le =
    let text : decimal (digits_value 10 word) ≡ word = decimal-digits_value own word digits some (λ zero. absurd (no_zero zero)) (omega arith) in
    let positive : digits_value 10 word ≢ 0 = λ e. no_zero (ap (λ (w : List ℕ). get_or w 0 0) (sym text ∙ ap decimal e) ∙ ap (λ (w : List ℕ). get_or w 0 0) (decimal_digit 0 (omega arith))) in
    ((omega arith, le), sym text)
