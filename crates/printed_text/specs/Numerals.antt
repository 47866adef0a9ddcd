-- Numbers as text.
use Rattle.std.specs.Prelude.{ℕ, zero, suc, ◌+◌, ◌/◌, ◌%◌, if◌then◌else◌, nat_lt, List, [], ◌∷◌, ◌++◌}

-- a digit of base 16, in lower case
abbrev pub hex_digit : ℕ → ℕ
hex_digit digit = if nat_lt digit 10 then 48 + digit else 87 + digit

-- the lowest digits of a number in base 16, so many
unfoldable pub hex : ℕ → ℕ → List ℕ
hex zero number = []
hex (suc count) number = hex count (number / 16) ++ hex_digit (number % 16) ∷ []

-- a value of so many bits: a digit for every four of them
abbrev pub value_text : ℕ → ℕ → List ℕ
value_text width value = hex ((width + 3) / 4) value

-- the end of a line
abbrev pub newline : List ℕ
newline = 10 ∷ []
