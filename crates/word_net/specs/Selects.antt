-- Bits of words at fixed and at variable positions (IEEE 1364-2005, 4.2.1 and 5.2.1), read and replaced.
use Rattle.std.specs.Prelude.{ℕ, ◌+◌, ◌-◌, Bool, ◌&&◌, if◌then◌else◌, nat_le, nat_lt, ℤ, ◌+ℤ◌, List, [], ◌∷◌, slice_get, Option, Some, None}
use Rattle.std.specs.Option.{option_and_then}
use Rattle.design_core.specs.Valuation.{place_within, distance_of, bit_or_zero}

-- the range with which a word is declared, and how many bits it has
pub record Range : Type 0 where
  pub width : ℕ
  pub left : ℤ
  pub right : ℤ

-- the position of the bit that has an index, where there is one
abbrev pub position_in : Range → ℤ → Option ℕ
position_in range index = place_within range.width (distance_of range.left range.right index)

-- bit b of a part by a variable index: the one that has the index plus the offset of b, and 0 where there is none
abbrev pub picked_bit : Range → (ℕ → Bool) → ℤ → List ℤ → ℕ → Bool
picked_bit range bits index offsets b =
    bit_or_zero bits (option_and_then (λ k. position_in range (index +ℤ k)) (slice_get offsets b))

-- `size` bits from position `from` on replaced
abbrev pub put_bits : (ℕ → Bool) → ℕ → ℕ → (ℕ → Bool) → ℕ → Bool
put_bits old from size bits p = if nat_le from p && nat_lt p (from + size) then bits (p - from) else old p

-- one bit replaced, where there is one
abbrev pub put_bit : (ℕ → Bool) → Option ℕ → Bool → ℕ → Bool
put_bit old None b p = old p
put_bit old (Some position) b p = put_bits old position 1 (λ _. b) p

-- each bit of a part by a variable index replaced, from bit b on, the lowest first
abbrev pub put_picked : Range → (ℕ → Bool) → ℤ → ℕ → List ℤ → (ℕ → Bool) → ℕ → Bool
put_picked range old index b [] bits p = old p
put_picked range old index b (offset ∷ offsets) bits p =
    put_picked range (put_bit old (position_in range (index +ℤ offset)) (bits b)) index (b + 1) offsets bits p
