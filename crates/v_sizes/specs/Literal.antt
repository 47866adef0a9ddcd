-- What a number of the text is (IEEE 1364-2005, 3.5.1): its width, its sign and its value. The standard gives a number
-- without a size at least 32 bits; that it has 32 is this project's own choice. A wildcard digit counts as 0 here, and a
-- value wider than the size is cut on the left.
use Rattle.std.specs.Prelude.{ℕ, ◌+◌, ◌%◌, ◌^◌, ◌==◌, Bool, true, false, if◌then◌else◌, min, max, List, [], ◌∷◌, take, drop, Option, position}
use Rattle.std.specs.Option.{option_map_or}
use Rattle.v_syntax.specs.Literals.{value_of, base_of}
use Rattle.v_syntax.specs.Numbers.{is_sign}

-- a width, and what counts as one where it isn't 1 to 128
abbrev pub limited : ℕ → ℕ
limited width = max 1 (min width 128)

-- the place of the quote between size and base, where there is one
abbrev pub quote_in : List ℕ → Option ℕ
quote_in text = position (λ byte. byte == 39) text

-- the width that a size gives
abbrev pub width_of_size : List ℕ → ℕ
width_of_size [] = 32
width_of_size (byte ∷ rest) = value_of 10 (byte ∷ rest)

-- the value of a base letter and the digits behind it
abbrev pub value_in_base : List ℕ → ℕ
value_in_base [] = 0
value_in_base (letter ∷ digits) = option_map_or (λ base. value_of base digits) (base_of letter) 0

-- what stands behind the quote: perhaps the letter of the sign, then base and digits
abbrev pub has_sign : List ℕ → Bool
has_sign [] = false
has_sign (byte ∷ rest) = is_sign byte

abbrev pub value_behind : List ℕ → ℕ
value_behind [] = 0
value_behind (byte ∷ rest) = value_in_base (if is_sign byte then rest else byte ∷ rest)

-- the width that is written
abbrev pub written_width : List ℕ → ℕ
written_width text = option_map_or (λ at. width_of_size (take at text)) (quote_in text) 32

abbrev pub literal_width : List ℕ → ℕ
literal_width text = limited (written_width text)

-- a plain decimal number is signed, and so is one with the letter of the sign
abbrev pub literal_signed : List ℕ → Bool
literal_signed text = option_map_or (λ at. has_sign (drop (at + 1) text)) (quote_in text) true

abbrev pub literal_value : List ℕ → ℕ
literal_value text = option_map_or (λ at. value_behind (drop (at + 1) text)) (quote_in text) (value_of 10 text) % 2 ^ literal_width text
