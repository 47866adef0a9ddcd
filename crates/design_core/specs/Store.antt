-- What a left side stores (IEEE 1364-2005, 6.1.1, 9.2.1 and 5.2.2): bits out of range are stored nowhere.
use Rattle.std.specs.Prelude.{ℕ, ◌+◌, ◌-◌, ◌==◌, Bool, ◌&&◌, if◌then◌else◌, nat_le, nat_lt, ℤ, ◌+ℤ◌, List, [], ◌∷◌, length, Option, Some, None}
use Rattle.design_core.specs.declared.signal.Signal.{Signal}
use Rattle.design_core.specs.declared.statement.Part.{Part}
use Rattle.design_core.specs.declared.statement.Part.TheVariants.{Whole, Slice, Pick, Word}
use Rattle.design_core.specs.Valuation.{Valuation, width_at, position_at, word_at}
use Rattle.design_core.specs.Value.{index_value}

-- the number of bits of a part
abbrev pub part_width : List Signal → Part → ℕ
part_width signals (Whole signal) = width_at signals signal
part_width signals (Slice _ _ width) = width
part_width signals (Pick _ _ offsets) = length offsets
part_width signals (Word _ _ _ _ _ width) = width

-- the number of bits of a left side
abbrev pub parts_width : List Signal → List Part → ℕ
parts_width signals [] = 0
parts_width signals (part ∷ parts) = part_width signals part + parts_width signals parts

-- a valuation with the bits of a signal at some positions, `width` of them from `from` on, replaced
abbrev pub with_bits : Valuation → ℕ → ℕ → ℕ → (ℕ → Bool) → Valuation
with_bits M signal from width bits s p =
    if s == signal && nat_le from p && nat_lt p (from + width) then bits (p - from) else M s p

-- one bit replaced, where there is one
abbrev pub with_bit : Valuation → ℕ → Option ℕ → Bool → Valuation
with_bit M signal None b = M
with_bit M signal (Some position) b = with_bits M signal position 1 (λ _. b)

-- each bit of a part by a variable index replaced, from the lowest, where there is one with its index
abbrev pub with_picked : List Signal → Valuation → ℕ → ℤ → ℕ → List ℤ → (ℕ → Bool) → Valuation
with_picked signals M signal index b [] bits = M
with_picked signals M signal index b (offset ∷ offsets) bits =
    let next = with_bit M signal (position_at signals signal (index +ℤ offset)) (bits b) in
    with_picked signals next signal index (b + 1) offsets bits

-- bits of a word of an array replaced, where there is such a word
abbrev pub with_word : Valuation → Option ℕ → ℕ → ℕ → (ℕ → Bool) → Valuation
with_word M None from width bits = M
with_word M (Some signal) from width bits = with_bits M signal from width bits

-- one part of a left side stored into M; indexes are read in E
abbrev pub store_part : List Signal → Valuation → Valuation → Part → (ℕ → Bool) → Valuation
store_part signals E M (Whole signal) bits = with_bits M signal 0 (width_at signals signal) bits
store_part signals E M (Slice signal from width) bits = with_bits M signal from width bits
store_part signals E M (Pick signal index offsets) bits = with_picked signals M signal (index_value signals E index) 0 offsets bits
store_part signals E M (Word first count low index from width) bits =
    with_word M (word_at first count low (index_value signals E index)) from width bits

-- a left side stored into M, its parts from the left; the leftmost takes the highest bits
abbrev pub store : List Signal → Valuation → Valuation → List Part → (ℕ → Bool) → Valuation
store signals E M [] bits = M
store signals E M (part ∷ parts) bits =
    let next = store_part signals E M part (λ b. bits (parts_width signals parts + b)) in
    store signals E next parts bits
