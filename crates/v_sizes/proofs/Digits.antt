-- The values of digits in 128 bits.
use Rattle.std.proofs.Common.{◌≡◌, ℕ, ◌+◌, ◌*◌, ◌%◌, ◌<◌, ◌≤◌, cond, Bool, true, false, List, [], ◌∷◌, length, get_or, drop, ap, arith, ◌∙◌, sym}
use Rattle.std.specs.Prelude.{◌||◌, min}
use Rattle.std.proofs.lemmas.Nat.{mul-mod_first}
use Rattle.std.proofs.Math.Nat.{mod-mod, add-mod, mod-eq_of_lt}
use Rattle.std.proofs.lemmas.List.{drop_all}
use Rattle.v_syntax.specs.Numbers.{is_hexadecimal, is_wild}
use Rattle.v_syntax.specs.Literals.{digit_value, next_value, value_from, value_of}
use Rattle.v_syntax.proofs.Digits.{drop_at, next_value_digit, next_value_other}

next_by-mod : (base v digit m : ℕ) (b : Bool) → cond b (v % m * base + digit) (v % m) % m ≡ cond b (v * base + digit) v % m
next_by-mod base v digit m true = add-mod (v % m * base) digit m ∙ ap (λ x. (x + digit % m) % m) (mul-mod_first v base m) ∙ sym (add-mod (v * base) digit m)
next_by-mod base v digit m false = mod-mod v m

-- the next value modulo m
next-mod : (base v byte m : ℕ) → next_value base (v % m) byte % m ≡ next_value base v byte % m
next-mod base v byte m = next_by-mod base v (digit_value byte) m (is_hexadecimal byte || is_wild byte)

-- a value that is the same modulo m
value_from-same : (base v w m : ℕ) (digits : List ℕ) → v % m ≡ w % m → value_from base v digits % m ≡ value_from base w digits % m
value_from-same base v w m [] same = same
value_from-same base v w m (byte ∷ rest) same =
    value_from-same base (next_value base v byte) (next_value base w byte) m rest
    (sym (next-mod base v byte m) ∙ ap (λ x. next_value base x byte % m) same ∙ next-mod base w byte m)

-- the value with the digit at a place
pub value_more-mod : (base value next : ℕ) (digits : List ℕ) (i m : ℕ) → i < length digits → next ≡ next_value base value (get_or digits i 0) % m
    → value_from base value (drop i digits) % m ≡ value_of base digits % m → value_from base next (drop (i + 1) digits) % m ≡ value_of base digits % m
value_more-mod base value next digits i m within is before =
    value_from-same base next (next_value base value (get_or digits i 0)) m (drop (i + 1) digits) (ap (λ n. n % m) is ∙ mod-mod (next_value base value (get_or digits i 0)) m)
    ∙ sym (ap (λ ds. value_from base value ds % m) (drop_at digits i within)) ∙ before

-- behind the last digit
pub value_done-mod : (base value : ℕ) (digits : List ℕ) (i m : ℕ) → length digits ≤ i → value < m
    → value_from base value (drop i digits) % m ≡ value_of base digits % m → value ≡ value_of base digits % m
value_done-mod base value digits i m end below same =
    sym (mod-eq_of_lt below) ∙ sym (ap (λ ds. value_from base value ds % m) (drop_all i digits end)) ∙ same

-- the next value up to 255
next_by-min : (v w digit : ℕ) (b : Bool) → min v 255 ≡ min w 255 → min (cond b (v * 10 + digit) v) 255 ≡ min (cond b (w * 10 + digit) w) 255
next_by-min v w digit true same = omega (arith, same)
next_by-min v w digit false same = same

value_from-min : (v w : ℕ) (digits : List ℕ) → min v 255 ≡ min w 255 → min (value_from 10 v digits) 255 ≡ min (value_from 10 w digits) 255
value_from-min v w [] same = same
value_from-min v w (byte ∷ rest) same =
    value_from-min (next_value 10 v byte) (next_value 10 w byte) rest (next_by-min v w (digit_value byte) (is_hexadecimal byte || is_wild byte) same)

-- the value up to 255 with the digit at a place
pub value_more-min : (value next : ℕ) (digits : List ℕ) (i : ℕ) → i < length digits → next ≡ min (next_value 10 value (get_or digits i 0)) 255
    → min (value_from 10 value (drop i digits)) 255 ≡ min (value_of 10 digits) 255 → min (value_from 10 next (drop (i + 1) digits)) 255 ≡ min (value_of 10 digits) 255
value_more-min value next digits i within is before =
    value_from-min next (next_value 10 value (get_or digits i 0)) (drop (i + 1) digits) (omega (arith, is))
    ∙ sym (ap (λ ds. min (value_from 10 value ds) 255) (drop_at digits i within)) ∙ before

pub value_done-min : (value : ℕ) (digits : List ℕ) (i : ℕ) → length digits ≤ i → value ≤ 255
    → min (value_from 10 value (drop i digits)) 255 ≡ min (value_of 10 digits) 255 → value ≡ min (value_of 10 digits) 255
value_done-min value digits i end most same =
    omega (arith, most, sym (ap (λ ds. min (value_from 10 value ds) 255) (drop_all i digits end)) ∙ same)

pub ruleset sizes = (value_more-min, value_done-min)

pub ruleset next_rows = (next_value_digit, next_value_other)

pub ruleset digits = (value_more-mod, value_done-mod)
