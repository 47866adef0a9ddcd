-- What the values of arguments mean: rules of our own.
use Rattle.std.specs.Prelude.{ℕ, Bool, true, not, ◌&&◌, ◌||◌, ◌==◌, nat_le, if◌then◌else◌, List, [], ◌∷◌, length, Option, Some, None}
use Rattle.std.specs.List.{list_all, list_any, slice_split}
use Rattle.std.specs.Option.{option_map_or}
use Rattle.std.specs.Str.{bytes_eq}
use Rattle.std.specs.Str.Parse.{digits_value}
use Rattle.loc_base.specs.Ascii.{is_decimal, is_visible}

-- 1 to 10 decimal digits
abbrev pub is_numeral : List ℕ → Bool
is_numeral word = nat_le 1 (length word) && nat_le (length word) 10 && list_all is_decimal word

-- the number that they write, where it is at most `most`
abbrev pub number_of : ℕ → List ℕ → Option ℕ
number_of most word =
    if is_numeral word && nat_le (digits_value 10 word) most then Some (digits_value 10 word) else None

-- a number from `least` to `most`
abbrev pub from_least : ℕ → Option ℕ → Option ℕ
from_least least None = None
from_least least (Some number) = if nat_le least number then Some number else None

abbrev pub number_from : ℕ → ℕ → List ℕ → Option ℕ
number_from least most word = from_least least (number_of most word)

-- the name of a file: 1 to 4,096 bytes, none of them a control character
abbrev pub is_file_byte : ℕ → Bool
is_file_byte byte = nat_le 32 byte && not (byte == 127)

abbrev pub is_file_name : List ℕ → Bool
is_file_name word = nat_le 1 (length word) && nat_le (length word) 4096 && list_all is_file_byte word

-- the name of a module or a signal: at least one byte, each printable ASCII other than the space
abbrev pub is_name : List ℕ → Bool
is_name word = nat_le 1 (length word) && list_all is_visible word

-- what a value passes, where there is one
abbrev pub option_all : {A : Type 0} → (A → Bool) → Option A → Bool
option_all passes value = option_map_or passes value true

-- ---- names among names
-- a name is one of some
abbrev pub is_one_of : List (List ℕ) → List ℕ → Bool
is_one_of names name = list_any (bytes_eq name) names

-- none stands twice
abbrev pub is_once : List (List ℕ) → Bool
is_once [] = true
is_once (name ∷ names) = not (is_one_of names name) && is_once names

-- ---- kinds of suspects
-- the name of a kind: 1 to 32 small letters, digits and `_`
abbrev pub is_kind_byte : ℕ → Bool
is_kind_byte byte = (nat_le 97 byte && nat_le byte 122) || ((nat_le 48 byte && nat_le byte 57) || byte == 95)

abbrev pub is_kind_name : List ℕ → Bool
is_kind_name word = nat_le 1 (length word) && nat_le (length word) 32 && list_all is_kind_byte word

-- the words between commas
abbrev pub kinds_in : List ℕ → List (List ℕ)
kinds_in word = slice_split (λ b. b == 44) word

-- names of kinds that are known, each once
abbrev pub are_kinds : List (List ℕ) → List (List ℕ) → Bool
are_kinds known names = list_all is_kind_name names && list_all (is_one_of known) names && is_once names
