-- The shape of a number (IEEE 1364-2005, 3.5.1). Each test is of all the bytes that stand behind what was read.
use Rattle.std.specs.Prelude.{ℕ, Bool, true, false, ◌&&◌, ◌||◌, List, [], ◌∷◌, if◌then◌else◌, ◌==◌}
use Rattle.std.specs.List.{list_all}
use Rattle.v_syntax.specs.Bytes.{between, is_white, is_decimal}

-- s or S
unfoldable pub is_sign : ℕ → Bool
is_sign byte = byte == 115 || byte == 83

-- b, o, d or h, in either case
unfoldable pub is_base : ℕ → Bool
is_base byte =
    (byte == 98 || byte == 66) || (byte == 111 || byte == 79) || (byte == 100 || byte == 68) || (byte == 104 || byte == 72)

-- z, Z or ?
unfoldable pub is_wild : ℕ → Bool
is_wild byte = byte == 122 || byte == 90 || byte == 63

-- x or X
unfoldable pub is_unknown : ℕ → Bool
is_unknown byte = byte == 120 || byte == 88

-- 0 to 9, a to f or A to F
unfoldable pub is_hexadecimal : ℕ → Bool
is_hexadecimal byte = is_decimal byte || between 97 102 byte || between 65 70 byte

-- a digit of some base
unfoldable pub is_digit : ℕ → Bool
is_digit byte = is_hexadecimal byte || is_unknown byte || is_wild byte

-- digits go on with digits and underscores
unfoldable pub is_digit_or_underscore : ℕ → Bool
is_digit_or_underscore byte = is_digit byte || byte == 95

-- a size and a plain decimal number go on with decimal digits and underscores
unfoldable pub is_decimal_or_underscore : ℕ → Bool
is_decimal_or_underscore byte = is_decimal byte || byte == 95

-- behind the white space behind the base letter: the digits
unfoldable pub is_spaced_digits : List ℕ → Bool
is_spaced_digits [] = false
is_spaced_digits (byte ∷ rest) =
    if is_white byte then is_spaced_digits rest else is_digit byte && list_all is_digit_or_underscore rest

-- behind the base letter: nothing, or white space and digits
unfoldable pub is_digits : List ℕ → Bool
is_digits [] = true
is_digits (byte ∷ rest) =
    if is_white byte then is_spaced_digits rest else is_digit byte && list_all is_digit_or_underscore rest

-- behind the sign letter: nothing, or the base letter and what goes with it
unfoldable pub is_signed_base : List ℕ → Bool
is_signed_base [] = true
is_signed_base (byte ∷ rest) = is_base byte && is_digits rest

-- behind the quote: nothing, or the sign letter, if there is one, and the base letter
unfoldable pub is_based : List ℕ → Bool
is_based [] = true
is_based (byte ∷ rest) = if is_sign byte then is_signed_base rest else is_base byte && is_digits rest

-- behind the white space behind a size: the quote
unfoldable pub is_spaced_quote : List ℕ → Bool
is_spaced_quote [] = false
is_spaced_quote (byte ∷ rest) = if is_white byte then is_spaced_quote rest else byte == 39 && is_based rest

-- behind the first digit of a number that doesn't begin with a quote
unfoldable pub is_number_rest : List ℕ → Bool
is_number_rest [] = true
is_number_rest (byte ∷ rest) =
    if is_decimal_or_underscore byte then is_number_rest rest
    else if is_white byte then is_spaced_quote rest
    else byte == 39 && is_based rest

-- a whole number: a decimal digit or a quote, and what goes with it
abbrev pub is_number : List ℕ → Bool
is_number [] = false
is_number (byte ∷ rest) = if is_decimal byte then is_number_rest rest else byte == 39 && is_based rest
