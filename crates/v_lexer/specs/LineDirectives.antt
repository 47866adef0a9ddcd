-- What stands behind the word of a `line` directive (IEEE 1364-2005, 19.7): a number, a file's name in double quotes and a
-- level, each behind white space.
use Rattle.std.specs.Prelude.{ℕ, Bool, false, not, ◌&&◌, List, [], ◌∷◌, drop, ◌==◌, nat_le}
use Rattle.std.specs.List.{list_all, prefix_len}
use Rattle.v_syntax.specs.Bytes.{is_white, is_decimal}
use Rattle.v_syntax.specs.Literals.{skip_white}

-- a byte that isn't the quote
abbrev pub not_quote : ℕ → Bool
not_quote byte = not (byte == 34)

-- a level is 0, 1 or 2
abbrev pub is_level_digit : ℕ → Bool
is_level_digit byte = nat_le 48 byte && nat_le byte 50

-- a level, and nothing but white space behind it
abbrev pub is_level : List ℕ → Bool
is_level [] = false
is_level (byte ∷ rest) = is_level_digit byte && list_all is_white rest

-- white space and a level
abbrev pub is_spaced_level : List ℕ → Bool
is_spaced_level [] = false
is_spaced_level (byte ∷ rest) = is_white byte && is_level (skip_white rest)

-- from the quote that closes a file's name on
abbrev pub is_quote_and_level : List ℕ → Bool
is_quote_and_level [] = false
is_quote_and_level (byte ∷ rest) = is_spaced_level rest

-- a file's name in quotes, and a level
abbrev pub is_file : List ℕ → Bool
is_file [] = false
is_file (byte ∷ rest) = byte == 34 && is_quote_and_level (drop (prefix_len not_quote rest) rest)

-- white space, a file's name and a level
abbrev pub is_spaced_file : List ℕ → Bool
is_spaced_file [] = false
is_spaced_file (byte ∷ rest) = is_white byte && is_file (skip_white rest)

-- decimal digits, a file's name and a level
abbrev pub is_numbered_file : List ℕ → Bool
is_numbered_file [] = false
is_numbered_file (byte ∷ rest) = is_decimal byte && is_spaced_file (drop (prefix_len is_decimal rest) rest)

-- what may stand behind the word
unfoldable pub is_line_tail : List ℕ → Bool
is_line_tail [] = false
is_line_tail (byte ∷ rest) = is_white byte && is_numbered_file (skip_white rest)
