-- Which bits a select names (IEEE 1364-2005, 5.2.1): how many, and how far the index of each lies from the index that is
-- written. Bit 0 is the one nearest the right end of the declared range.
use Rattle.std.specs.Prelude.{ℕ, suc, ◌+◌, ◌-◌, Bool, true, false, not, if◌then◌else◌, min, int_lt, ℤ, pos, negsuc, ◌+ℤ◌, ◌-ℤ◌}
use Rattle.v_syntax.specs.declared.expression.PartKind.{PartKind}
use Rattle.v_syntax.specs.declared.expression.PartKind.TheVariants as kind
use Rattle.design_core.specs.Valuation.{number, distance_of, place_within, bit_or_zero}

-- whether the indexes of a range become less from its left end to its right; those of a range of one index do
abbrev pub descends : ℤ → ℤ → Bool
descends left right = not (int_lt left right)

-- a whole number as a natural one: none below 0
abbrev pub at_least_0 : ℤ → ℕ
at_least_0 (pos n) = n
at_least_0 (negsuc _) = 0

-- the number of indexes from one bound to another
abbrev pub count_between : ℤ → ℤ → ℕ
count_between left right = at_least_0 (if int_lt left right then right -ℤ left else left -ℤ right) + 1

-- how many bits a part-select names: by its two bounds, or by its written count
abbrev pub part_count : PartKind → ℤ → ℤ → ℕ
part_count kind.Range left right = count_between left right
part_count kind.Up index count = at_least_0 count
part_count kind.Down index count = at_least_0 count

-- whether a part-select runs as the declared range does; one by an index and a count always does
abbrev pub runs_along : PartKind → Bool → ℤ → ℤ → Bool
runs_along kind.Range true left right = not (int_lt left right)
runs_along kind.Range false left right = not (int_lt right left)
runs_along kind.Up _ _ _ = true
runs_along kind.Down _ _ _ = true

-- the index from which those of the bits are counted: the right bound, or the index that is written
abbrev pub base_index : PartKind → ℤ → ℤ → ℤ
base_index kind.Range left right = right
base_index kind.Up index count = index
base_index kind.Down index count = index

-- how far the index of bit b of `count` bits lies from that index, in a range that descends or not
abbrev pub part_offset : PartKind → Bool → ℕ → ℕ → ℤ
part_offset kind.Range true count b = pos b
part_offset kind.Range false count b = pos 0 -ℤ pos b
part_offset kind.Up true count b = pos b
part_offset kind.Up false count b = pos (count - 1) -ℤ pos b
part_offset kind.Down true count b = pos b -ℤ pos (count - 1)
part_offset kind.Down false count b = pos 0 -ℤ pos b

-- the bit of a word of a width and a range that has an index; 0 where there is none
abbrev pub bit_at_index : (ℕ → Bool) → ℕ → ℤ → ℤ → ℤ → Bool
bit_at_index bits width left right index = bit_or_zero bits (place_within width (distance_of left right index))

-- the number that the bits of a part mean: `count` bits whose indexes lie so far from an index
abbrev pub part_number : (ℕ → Bool) → ℕ → ℤ → ℤ → ℤ → ℕ → (ℕ → ℤ) → ℕ
part_number bits width left right index count offset =
    number count (λ b. bit_at_index bits width left right (index +ℤ offset b))

-- of `count` bits that lie side by side, the first so far from bit 0 of a word: how many lie below the word, how many
-- within, and from where on
abbrev pub bits_below : ℕ → ℤ → ℕ
bits_below count (pos from) = 0
bits_below count (negsuc n) = min count (suc n)

abbrev pub bits_within : ℕ → ℕ → ℤ → ℕ
bits_within width count (pos from) = min count (width - from)
bits_within width count (negsuc n) = min width (count - suc n)

abbrev pub start_within : ℤ → ℕ
start_within (pos from) = from
start_within (negsuc _) = 0

-- the bits of a select by constants: how many, and how far the first lies from bit 0
abbrev pub part_distance : ℤ → ℤ → PartKind → ℤ → ℤ → ℕ → ℤ
part_distance left right kind one other count =
    distance_of left right (base_index kind one other +ℤ part_offset kind (descends left right) count 0)
