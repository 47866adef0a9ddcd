-- Numbers (Biere, The AIGER And-Inverter Graph (AIG) Format, 2007, the ASCII format): words of decimal digits without leading
-- zeros. They are held in 32 bits.
use Rattle.std.specs.Prelude.{ℕ, ◌+◌, ◌-◌, ◌*◌, ◌==◌, Bool, not, nat_le, ◌&&◌, ◌||◌, if◌then◌else◌, List, [], ◌∷◌, length, slice_index, fold, Option, None, Some}
use Rattle.std.specs.List.{list_all}
use Rattle.std.specs.Option.{option_map, option_and_then}
use Rattle.loc_base.specs.Ascii.{is_decimal}
use Rattle.aiger_text.specs.Lines.{words}

-- the number that decimal digits mean
abbrev pub number_of : List ℕ → ℕ
number_of digits = fold (λ number byte. number * 10 + (byte - 48)) 0 digits

-- one to ten bytes, the first of them no `0` unless it is the only one
abbrev pub is_short : List ℕ → Bool
is_short word = nat_le 1 (length word) && nat_le (length word) 10 && (length word == 1 || not (slice_index word 0 == 48))

-- the number that a word says: short, made of digits, and at most 2 ^ 32 - 1
abbrev pub number_in : List ℕ → Option ℕ
number_in word = if is_short word && list_all is_decimal word && nat_le (number_of word) 4294967295 then Some (number_of word) else None

-- the numbers that words say, where each says one
abbrev pub each_number : List (List ℕ) → Option (List ℕ)
each_number [] = Some []
each_number (word ∷ words) = option_and_then (λ number. option_map (λ numbers. number ∷ numbers) (each_number words)) (number_in word)

-- the numbers of a line, where each of its words is one
abbrev pub numbers_in : List ℕ → Option (List ℕ)
numbers_in line = each_number (words line)
