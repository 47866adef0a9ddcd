-- Operations on words that make no nodes: their bits are literals of the operands, or constants.
use Rattle.std.specs.Prelude.{ℕ, zero, suc, ◌+◌, ◌-◌, ◌/◌, ◌%◌, ◌==◌, Bool, false, if◌then◌else◌, nat_le, List, [], ◌∷◌, ◌++◌, length, take, drop, replicate, slice_index_or}
use Rattle.gate_base.specs.declared.literal.Literal.{Literal}
use Rattle.gate_base.specs.declared.literal.Literal.TheVariants.{Known}

-- the bits of a number, from bit 0 up
unfoldable pub constant_bits : ℕ → ℕ → List Literal
constant_bits zero value = []
constant_bits (suc width) value = Known (value % 2 == 1) ∷ constant_bits width (value / 2)

-- the top bit of a word
abbrev pub top_bit : List Literal → Literal
top_bit xs = slice_index_or xs (length xs - 1) (Known false)

-- what a word is extended by: its sign where it is signed (IEEE 1364-2005, 5.5.4)
abbrev pub sign_bit : Bool → List Literal → Literal
sign_bit signed xs = if signed then top_bit xs else Known false

-- a word cut or extended to a width
abbrev pub resized_bits : {A : Type 0} → ℕ → A → List A → List A
resized_bits width fill xs = if nat_le (length xs) width then xs ++ replicate (width - length xs) fill else take width xs

-- a word a number of times (5.1.14)
unfoldable pub repeated_bits : {A : Type 0} → ℕ → List A → List A
repeated_bits zero xs = []
repeated_bits (suc times) xs = xs ++ repeated_bits times xs

-- `size` bits from position `from` on
abbrev pub part_of : {A : Type 0} → ℕ → ℕ → List A → List A
part_of from size xs = take size (drop from xs)

-- a word whose bits from position `from` on are replaced
abbrev pub replaced_bits : {A : Type 0} → ℕ → List A → List A → List A
replaced_bits from part xs = take from xs ++ (part ++ drop (from + length part) xs)

-- the bits of one word where a number has 1, else those of the other
unfoldable pub blended_bits : {A : Type 0} → ℕ → List A → List A → List A
blended_bits mask [] ys = []
blended_bits mask (x ∷ xs) [] = []
blended_bits mask (x ∷ xs) (y ∷ ys) = (if mask % 2 == 1 then x else y) ∷ blended_bits (mask / 2) xs ys
