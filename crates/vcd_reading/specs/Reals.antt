-- The numbers of real changes (IEEE 1364-2005, 18.2.1): as C's `%.16g` prints them.
use Rattle.std.specs.Prelude.{ℕ, Bool, true, false, ◌||◌, ◌==◌, if◌then◌else◌, List, [], ◌∷◌, Option, Some, None, codes}
use Rattle.std.specs.Option.{option_and_then}
use Rattle.loc_base.specs.Ascii.{is_decimal}
use Rattle.vcd_reading.specs.Commands.{same_bytes}

-- what stands behind a sign, where there is one
abbrev pub unsigned : List ℕ → List ℕ
unsigned [] = []
unsigned (byte ∷ bytes) = if byte == 43 || byte == 45 then bytes else byte ∷ bytes

-- what stands behind the digits at the front
abbrev pub drop_digits : List ℕ → List ℕ
drop_digits [] = []
drop_digits (byte ∷ bytes) = if is_decimal byte then drop_digits bytes else byte ∷ bytes

-- what stands behind at least one digit
abbrev pub past_digits : List ℕ → Option (List ℕ)
past_digits [] = None
past_digits (byte ∷ bytes) = if is_decimal byte then Some (drop_digits bytes) else None

-- what stands behind a point and digits, where there is a point
abbrev pub past_fraction : List ℕ → Option (List ℕ)
past_fraction [] = Some []
past_fraction (byte ∷ bytes) = if byte == 46 then past_digits bytes else Some (byte ∷ bytes)

-- what stands behind `e`, a sign if any, and digits, where there is an `e`
abbrev pub past_exponent : List ℕ → Option (List ℕ)
past_exponent [] = Some []
past_exponent (byte ∷ bytes) = if byte == 101 then past_digits (unsigned bytes) else Some (byte ∷ bytes)

abbrev pub is_at_end : Option (List ℕ) → Bool
is_at_end None = false
is_at_end (Some []) = true
is_at_end (Some (byte ∷ bytes)) = false

-- digits, a fraction if any, and an exponent if any
unfoldable pub is_decimal_number : List ℕ → Bool
is_decimal_number bytes = is_at_end (option_and_then past_exponent (option_and_then past_fraction (past_digits bytes)))

-- `inf` and `nan`, as C's `%g` prints them
abbrev pub is_no_number : List ℕ → Bool
is_no_number bytes = same_bytes bytes (codes "inf") || same_bytes bytes (codes "nan")

-- a sign if any, and a decimal number or what stands for none
unfoldable pub is_real : List ℕ → Bool
is_real bytes = is_no_number (unsigned bytes) || is_decimal_number (unsigned bytes)
