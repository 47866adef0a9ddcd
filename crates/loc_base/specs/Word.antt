-- Words of bits as whole numbers (IEEE 1364-2005, 4.3.1 and 5.1.6): a word of a width w is a number below 2 ^ w,
-- read as it stands where it is unsigned and as two's complement where it is signed.
use Rattle.std.specs.Prelude.{ℕ, ℤ, pos, ◌-ℤ◌, ◌+◌, ◌-◌, ◌/◌, ◌^◌, Bool, nat_le, ◌&&◌, if◌then◌else◌}

-- whether the highest bit of a word is 1
abbrev pub is_negative : ℕ → ℕ → Bool
is_negative width value = nat_le (2 ^ (width - 1)) value

-- the whole number that a word means as two's complement
abbrev pub signed_value : ℕ → ℕ → ℤ
signed_value width value = if is_negative width value then pos value -ℤ pos (2 ^ width) else pos value

-- a word of a width carried to a wider one: by its highest bit where it is signed, else by zeros (5.5.2)
abbrev pub extended : Bool → ℕ → ℕ → ℕ → ℕ
extended signed from to value =
    if signed && is_negative from value then value + (2 ^ to - 2 ^ from) else value

-- a word shifted to the right, its highest bit repeated (5.1.12)
abbrev pub shifted_signed : ℕ → ℕ → ℕ → ℕ
shifted_signed width value by =
    if is_negative width value
    then (2 ^ width - 1) - ((2 ^ width - 1) - value) / 2 ^ by
    else value / 2 ^ by
