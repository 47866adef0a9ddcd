-- What the bits of the signals are, and which bit an index names (IEEE 1364-2005, 4.3, 4.9 and 5.2).
use Rattle.std.specs.Prelude.{ℕ, zero, suc, ◌+◌, ◌^◌, ◌==◌, Bool, false, if◌then◌else◌, nat_lt, int_lt, ℤ, pos, negsuc, ◌-ℤ◌, List, slice_get, Option, Some, None}
use Rattle.std.specs.Option.{option_and_then, option_map_or}
use Rattle.std.specs.Int.{bit_at}
use Rattle.design_core.specs.declared.signal.Signal.{Signal}

-- a valuation gives each bit of each signal its value: by the signal's number, then the position
abbrev pub Valuation : Type 0
Valuation = ℕ → ℕ → Bool

-- whether the bit of a whole number at a position is 1
abbrev pub bit : ℕ → ℕ → Bool
bit value position = bit_at value position == 1

-- the whole number that the lowest bits mean
unfoldable pub number : ℕ → (ℕ → Bool) → ℕ
number zero bits = 0
number (suc width) bits = number width bits + (if bits width then 2 ^ width else 0)

-- the width of the signal of a number
abbrev pub width_at : List Signal → ℕ → ℕ
width_at signals signal = option_map_or (λ s. s.width) (slice_get signals signal) 0

-- a distance as a place among a number of places, where it is one
abbrev pub place_within : ℕ → ℤ → Option ℕ
place_within places (pos distance) = if nat_lt distance places then Some distance else None
place_within places (negsuc _) = None

-- how far an index lies from the index declared rightmost, towards the one declared leftmost
abbrev pub distance_of : ℤ → ℤ → ℤ → ℤ
distance_of left right index = if int_lt left right then right -ℤ index else index -ℤ right

-- the position of the bit of a signal that has an index, where there is one
abbrev pub position_of : Signal → ℤ → Option ℕ
position_of signal index = place_within signal.width (distance_of signal.left signal.right index)

abbrev pub position_at : List Signal → ℕ → ℤ → Option ℕ
position_at signals signal index = option_and_then (λ s. position_of s index) (slice_get signals signal)

-- the signal that is the word of an array at an address, where there is one
abbrev pub word_at : ℕ → ℕ → ℤ → ℤ → Option ℕ
word_at first count low address = option_and_then (λ k. Some (first + k)) (place_within count (address -ℤ low))

-- a bit where there is one, else 0
abbrev pub bit_or_zero : (ℕ → Bool) → Option ℕ → Bool
bit_or_zero bits position = option_map_or bits position false
