-- A real number behind the `#` of a delay (IEEE 1364-2005, 3.5.2 and A.8.7). Each test is of all the bytes that stand behind what was
-- read.
use Rattle.std.specs.Prelude.{ℕ, Bool, true, false, ◌&&◌, ◌||◌, List, [], ◌∷◌, if◌then◌else◌, ◌==◌}
use Rattle.std.specs.List.{list_all}
use Rattle.v_syntax.specs.Bytes.{is_decimal}
use Rattle.v_syntax.specs.Numbers.{is_decimal_or_underscore}

-- e or E
unfoldable pub is_exponent_mark : ℕ → Bool
is_exponent_mark byte = byte == 101 || byte == 69

-- a plus or a minus sign
unfoldable pub is_plus_or_minus : ℕ → Bool
is_plus_or_minus byte = byte == 43 || byte == 45

-- behind the sign of an exponent: digits
unfoldable pub is_power : List ℕ → Bool
is_power [] = false
is_power (byte ∷ rest) = is_decimal byte && list_all is_decimal_or_underscore rest

-- behind the letter of an exponent: a sign, if there is one, and digits
unfoldable pub is_exponent : List ℕ → Bool
is_exponent [] = false
is_exponent (byte ∷ rest) =
    if is_plus_or_minus byte then is_power rest else is_decimal byte && list_all is_decimal_or_underscore rest

-- behind the first digit of a fraction: digits, and an exponent, if there is one
unfoldable pub is_fraction_rest : List ℕ → Bool
is_fraction_rest [] = true
is_fraction_rest (byte ∷ rest) =
    if is_decimal_or_underscore byte then is_fraction_rest rest else is_exponent_mark byte && is_exponent rest

-- behind the point: a digit at least
unfoldable pub is_fraction : List ℕ → Bool
is_fraction [] = false
is_fraction (byte ∷ rest) = is_decimal byte && is_fraction_rest rest

-- behind the first digit of a real number: digits, and a fraction or an exponent
unfoldable pub is_real_rest : List ℕ → Bool
is_real_rest [] = false
is_real_rest (byte ∷ rest) =
    if is_decimal_or_underscore byte then is_real_rest rest
    else if byte == 46 then is_fraction rest
    else is_exponent_mark byte && is_exponent rest
