-- The level of a variable and the digits that say it (IEEE 1364-2005, 18.2).
use Rattle.std.specs.Prelude.{ℕ, zero, suc, ◌≡◌, ◌≤◌, ◌+◌, ◌-◌, ◌*◌, ◌/◌, ◌%◌, ◌^◌, Bool, nat_le, ◌&&◌, ◌||◌, ◌==◌, if◌then◌else◌, List, [], ◌∷◌, ◌++◌, length, fold, bit_and, Option, None, Some}
use Rattle.std.specs.List.{list_all}
use Rattle.vcd_words.specs.declared.level.Level.{Level}

-- the digits x and z, in either case of the letter: the bit is not known
abbrev pub is_unknown : ℕ → Bool
is_unknown byte = byte == 120 || byte == 88 || byte == 122 || byte == 90

-- a digit of a level: 0, 1, x or z
abbrev pub is_level_digit : ℕ → Bool
is_level_digit byte = byte == 48 || byte == 49 || is_unknown byte

-- one digit more on the right; of the bits those below 2 ^ 128 are kept
abbrev pub shifted : Level → ℕ → Level
shifted level digit = record {
  ones = (level.ones * 2 + (if digit == 49 then 1 else 0)) % 2 ^ 128;
  unknowns = (level.unknowns * 2 + (if is_unknown digit then 1 else 0)) % 2 ^ 128;
}

-- what stands on the left of the digits: unknown bits where the leftmost digit is x or z, else zeros
abbrev pub filled : List ℕ → Level
filled [] = record { ones = 0; unknowns = 0 }
filled (digit ∷ digits) = record { ones = 0; unknowns = if is_unknown digit then 2 ^ 128 - 1 else 0 }

-- the level that digits say, the most significant first
abbrev pub level_of : List ℕ → Level
level_of digits = fold shifted (filled digits) digits

-- the level that a word says, where it is made of digits
abbrev pub level_in : List ℕ → Option Level
level_in digits = if nat_le 1 (length digits) && list_all is_level_digit digits then Some (level_of digits) else None

-- the level of a variable before its first change: no bit is known
abbrev pub unknown_level : Level
unknown_level = record { ones = 0; unknowns = 2 ^ 128 - 1 }

-- the bits of a level that a variable of a width has
abbrev pub cut_level : ℕ → Level → Level
cut_level width level = record { ones = level.ones % 2 ^ width; unknowns = level.unknowns % 2 ^ width }

-- the digit of a bit: x where it is not in the mask
abbrev pub digit_of : ℕ → ℕ → ℕ
digit_of bit known = if known == 0 then 120 else 48 + bit

-- all digits of a value of a width, the most significant first: x where a bit is not in the mask
unfoldable pub digits_of : ℕ → ℕ → ℕ → List ℕ
digits_of zero value mask = []
digits_of (suc width) value mask = digits_of width (value / 2) (mask / 2) ++ digit_of (value % 2) (mask % 2) ∷ []

-- the level of a value's digits is the value within its mask, with the bits outside it unknown
abbrev pub DigitsMean : Type 0
DigitsMean =
    (width value mask : ℕ) → 1 ≤ width → width ≤ 128
    → cut_level width (level_of (digits_of width value mask))
    ≡ record { ones = bit_and value mask % 2 ^ width; unknowns = 2 ^ width - 1 - mask % 2 ^ width }
