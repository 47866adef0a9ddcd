-- The bits of variables that names say: `NAME_i_` is bit `i` of `NAME`, counted from the lowest bit, number 0, whatever range the
-- variable is declared with. So yosys numbers the bits of a port that has several (`NAME[i]` in the symbols of an AIGER file).
use Rattle.std.specs.Prelude.{ℕ, suc, ◌+◌, ◌-◌, ◌==◌, ◌&&◌, Bool, nat_lt, if◌then◌else◌, List, [], ◌∷◌, length, take, drop, slice_index, Option, Some, None}
use Rattle.std.specs.Option.{option_map, option_and_then, option_or}
use Rattle.vcd_words.specs.Times.{time_in}
use Rattle.vcd_reading.specs.Commands.{same_bytes}

-- a bit of a variable: the name of the variable, and the number of the bit
pub record BitName : Type 0 where
  pub name : List ℕ
  pub number : ℕ

-- the place of the last element that passes a test
abbrev pub last_place : {X : Type 0} → (X → Bool) → List X → Option ℕ
last_place test [] = None
last_place test (x ∷ xs) = option_or (option_map suc (last_place test xs)) (if test x then Some 0 else None)

-- the byte `_`
abbrev pub is_underscore : ℕ → Bool
is_underscore byte = byte == 95

-- a number, where it is below 128
abbrev pub below_128 : ℕ → Option ℕ
below_128 number = if nat_lt number 128 then Some number else None

-- whether a 0 stands before other digits
abbrev pub has_leading_zero : List ℕ → Bool
has_leading_zero digits = nat_lt 1 (length digits) && slice_index digits 0 == 48

-- the number below 128 that decimal digits say, the first of them no 0 in front
abbrev pub number_in : List ℕ → Option ℕ
number_in digits = if has_leading_zero digits then None else option_and_then below_128 (time_in digits)

-- what bytes say whose last `_` has a place: before it a name, behind it a number
abbrev pub bit_at : List ℕ → ℕ → Option BitName
bit_at bytes place =
    option_map (λ number. record { name = take place bytes; number = number }) (number_in (drop (place + 1) bytes))

-- the bit that a name says, if it is one: a name, a `_`, a number, and a `_`
abbrev pub bit_in : List ℕ → Option BitName
bit_in name =
    if same_bytes (drop (length name - 1) name) (95 ∷ [])
    then option_and_then (bit_at (take (length name - 1) name)) (last_place is_underscore (take (length name - 1) name)) else None
