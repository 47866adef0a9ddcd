-- The values and the faults of numbers.
use Rattle.std.proofs.Common.{◌≡◌, ℕ, ◌+◌, ◌*◌, ◌^◌, ◌<◌, ◌≤◌, Bool, true, false, cond, ◌||◌, List, [], ◌∷◌, length, get_or, drop, refl, sym, ◌∙◌, ap, subst, arith, Option, Some, None, Result, Err, take}
use Rattle.std.specs.Prelude.{nat_eq, position}
use Rattle.std.proofs.Math.Nat.{mul-le-mul_left}
use Rattle.std.proofs.lemmas.Bool.{le-ltb}
use Rattle.v_syntax.specs.declared.token_kind.TokenKind.{TokenKind}
use Rattle.v_syntax.specs.declared.literal.NumberFault.{NumberFault}
use Rattle.v_syntax.specs.declared.literal.NumberFault.TheVariants.{Wide}
use Rattle.v_syntax.specs.Numbers.{is_hexadecimal, is_wild}
use Rattle.v_syntax.specs.Literals.{digit_value, next_value, value_from, value_of, digit_fault, digits_fault, judge_plain, judge_based, is_bad_size, judge}
use Rattle.v_syntax.proofs.Digits.{drop_at, next_value_digit, next_value_other}

grows : (base value : ℕ) → 1 ≤ base → value ≤ value * base
grows base value positive = grind (arith, mul-le-mul_left)

next_by : (base value digit : ℕ) (b : Bool) → 1 ≤ base → value ≤ cond b (value * base + digit) value
next_by base value digit true positive = omega (arith, grows base value positive)
next_by base value digit false positive = omega arith

next_value-le : (base value byte : ℕ) → 1 ≤ base → value ≤ next_value base value byte
next_value-le base value byte positive = next_by base value (digit_value byte) (is_hexadecimal byte || is_wild byte) positive

-- more digits make no value smaller
pub value_from-le : (base value : ℕ) (digits : List ℕ) → 1 ≤ base → value ≤ value_from base value digits
value_from-le base value [] positive = omega arith
value_from-le base value (byte ∷ rest) positive =
    let here : value ≤ next_value base value byte = next_value-le base value byte positive in
    let there : next_value base value byte ≤ value_from base (next_value base value byte) rest = value_from-le base (next_value base value byte) rest positive in
    omega (arith, here, there)

pub ruleset literal_rows = (next_value_digit, next_value_other)

-- a bound that doesn't hold
pub ruleset bound_rows = (le-ltb)

first_fault : (base : ℕ) (byte : ℕ) (rest : List ℕ) (found : Option NumberFault) → digit_fault base byte ≡ found
    → digits_fault base (byte ∷ rest) ≡ elim found [ Some fault ↦ Some fault | None ↦ digits_fault base rest ]
first_fault base byte rest found is = ap (λ o. elim o [ Some fault ↦ Some fault | None ↦ digits_fault base rest ]) is

-- the fault of the digit at a place
pub fault_found : (base : ℕ) (digits : List ℕ) (i : ℕ) (fault : NumberFault) → i < length digits → digit_fault base (get_or digits i 0) ≡ Some fault
    → digits_fault base digits ≡ digits_fault base (drop i digits) → digits_fault base digits ≡ Some fault
fault_found base digits i fault within found before =
    before ∙ ap (digits_fault base) (drop_at digits i within) ∙ first_fault base (get_or digits i 0) (drop (i + 1) digits) (Some fault) found

-- the digit at a place has no fault
pub fault_later : (base : ℕ) (digits : List ℕ) (i : ℕ) → i < length digits → digit_fault base (get_or digits i 0) ≡ None
    → digits_fault base digits ≡ digits_fault base (drop i digits) → digits_fault base digits ≡ digits_fault base (drop (i + 1) digits)
fault_later base digits i within found before =
    before ∙ ap (digits_fault base) (drop_at digits i within) ∙ first_fault base (get_or digits i 0) (drop (i + 1) digits) None found

-- the value with the digit at a place
pub value_more : (base value next : ℕ) (digits : List ℕ) (i : ℕ) → i < length digits → next ≡ next_value base value (get_or digits i 0)
    → value_from base value (drop i digits) ≡ value_of base digits → value_from base next (drop (i + 1) digits) ≡ value_of base digits
value_more base value next digits i within is before =
    ap (λ v. value_from base v (drop (i + 1) digits)) is ∙ sym (ap (value_from base value) (drop_at digits i within)) ∙ before

pub value_past : (base value : ℕ) (digits : List ℕ) (i : ℕ) → 1 ≤ base → i < length digits → 2 ^ 128 ≤ next_value base value (get_or digits i 0)
    → value_from base value (drop i digits) ≡ value_of base digits → 2 ^ 128 ≤ value_of base digits
value_past base value digits i positive within past before =
    let next : ℕ = next_value base value (get_or digits i 0) in
    let more : value_from base next (drop (i + 1) digits) ≡ value_of base digits = value_more base value next digits i within refl before in
    let there : next ≤ value_from base next (drop (i + 1) digits) = value_from-le base next (drop (i + 1) digits) positive in
    subst (λ v. 2 ^ 128 ≤ v) more (omega (arith, past, there))

-- the rows of a number, by its quote
pub judge_unquoted : (bytes : List ℕ) (outcome : Result TokenKind NumberFault) → position (λ byte. nat_eq byte 39) bytes ≡ None
    → outcome ≡ judge_plain bytes → outcome ≡ judge bytes
unfolding judge
judge_unquoted bytes outcome none is =
    is ∙ sym (ap (λ o. elim o [ Some at ↦ cond (is_bad_size (take at bytes)) (Err Wide) (judge_based (drop (at + 1) bytes)) | None ↦ judge_plain bytes ]) none)

pub judge_sized : (bytes size : List ℕ) (at : ℕ) → position (λ byte. nat_eq byte 39) bytes ≡ Some at
    → size ≡ take at bytes → is_bad_size size ≡ true → Err Wide ≡ judge bytes
unfolding judge
judge_sized bytes size at found front bad =
    sym (ap (λ o. elim o [ Some at ↦ cond (is_bad_size (take at bytes)) (Err Wide) (judge_based (drop (at + 1) bytes)) | None ↦ judge_plain bytes ]) found
    ∙ ap (λ b. cond b (Err Wide) (judge_based (drop (at + 1) bytes))) (sym (ap is_bad_size front) ∙ bad))

pub judge_quoted : (bytes size : List ℕ) (at : ℕ) (outcome : Result TokenKind NumberFault) → position (λ byte. nat_eq byte 39) bytes ≡ Some at
    → size ≡ take at bytes → is_bad_size size ≡ false → outcome ≡ judge_based (drop (at + 1) bytes) → outcome ≡ judge bytes
unfolding judge
judge_quoted bytes size at outcome found front fine is =
    is ∙ sym (ap (λ o. elim o [ Some at ↦ cond (is_bad_size (take at bytes)) (Err Wide) (judge_based (drop (at + 1) bytes)) | None ↦ judge_plain bytes ]) found
    ∙ ap (λ b. cond b (Err Wide) (judge_based (drop (at + 1) bytes))) (sym (ap is_bad_size front) ∙ fine))
