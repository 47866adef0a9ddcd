-- What a driver or a block reads, as a set of bits, for what is private to this crate.
use Rattle.std.specs.Prelude.{ℕ, ◌≡◌, ◌<◌, Bool, List, length, slice_index}
use Rattle.design_bits.specs.Masks.{has}

-- masks of no bit
abbrev pub AreZero : List ℕ → Type 0
AreZero masks = (s : ℕ) → slice_index masks s ≡ 0

-- a set has the bits that pass a test
pub record Reads (set : List ℕ) (test : ℕ → ℕ → Bool) : Type 0 where
  pub bits : (s b : ℕ) → s < length set → b < 128 → has set s b ≡ test s b
