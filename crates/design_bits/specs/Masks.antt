-- Sets of bits as masks, one for each signal.
use Rattle.std.specs.Prelude.{ℕ, ◌≡◌, ◌≢◌, ◌<◌, Bool, not, ◌&&◌, ◌||◌, List, length, slice_index, All, Contains}
use Rattle.design_core.specs.FullCase.{all_below}
use Rattle.design_core.specs.Valuation.{bit}

-- whether the set has a bit
abbrev pub has : List ℕ → ℕ → ℕ → Bool
has masks s b = bit (slice_index masks s) b

-- a set has the bits of another, and those that pass a test, of the signals that there are
pub record Adds (old new : List ℕ) (test : ℕ → ℕ → Bool) : Type 0 where
  pub long : length new ≡ length old
  pub bits : (s b : ℕ) → s < length old → b < 128 → has new s b ≡ (has old s b || test s b)

-- signals among which are all that have a bit
pub record AreTouched (masks touched : List ℕ) : Type 0 where
  pub within : All (λ s. s < length masks) touched
  pub all : (s : ℕ) → slice_index masks s ≢ 0 → Contains touched s

-- whether two masks have a bit in common
abbrev pub share_bit : ℕ → ℕ → Bool
share_bit one other = not (all_below 128 (λ b. not (bit one b && bit other b)))

-- whether a mask has a bit that another lacks
abbrev pub exceeds : ℕ → ℕ → Bool
exceeds one other = not (all_below 128 (λ b. not (bit one b && not (bit other b))))
