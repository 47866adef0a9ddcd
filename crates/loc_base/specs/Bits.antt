-- What a word of 1 to 128 bits shows: how many bits it has, and the whole number that they mean.
use Rattle.std.specs.Prelude.{ℕ, Bool, ◌==◌, ◌≤◌, ◌<◌, ◌^◌}
use Rattle.std.specs.Int.{bit_at}
use Rattle.loc_base.specs.declared.bits.Bits.{Bits}

-- the number of bits
abbrev pub width_of : Bits → ℕ
width_of word = word.width

-- the whole number that the bits mean
abbrev pub value_of : Bits → ℕ
value_of word = word.value

-- whether the bit at a position is 1, the lowest bit being at 0; it is not where there is no such bit
abbrev pub bit_of : Bits → ℕ → Bool
bit_of word position = bit_at word.value position == 1

-- each word has 1 to 128 bits, and its number is below 2 ^ width
pub width_of-low : (word : Bits) → 1 ≤ width_of word
width_of-low word = word.at_least_one

pub width_of-high : (word : Bits) → width_of word ≤ 128
width_of-high word = word.at_most_128

pub value_of-range : (word : Bits) → value_of word < 2 ^ width_of word
value_of-range word = word.in_range
