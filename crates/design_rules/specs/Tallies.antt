-- What is counted of each bit while entries are gone through, for what is private to this crate.
use Rattle.std.specs.Prelude.{ℕ, ◌≡◌, ◌<◌, Bool, ◌||◌, if◌then◌else◌, nat_lt, nat_le, List, length}
use Rattle.design_core.specs.declared.signal.Signal.{Signal}
use Rattle.design_core.specs.declared.design.Design.{Design}
use Rattle.design_rules.specs.Entries.{driven_times}
use Rattle.design_core.specs.WellFormed.{input_fits}
use Rattle.design_bits.specs.Masks.{has}

-- which bits were driven at least once, those of inputs from the start, and which too often
pub record IsTallied (input : ℕ → Bool) (times : ℕ → ℕ → ℕ) (signals : ℕ) (once twice : List ℕ) : Type 0 where
  pub once_long : length once ≡ signals
  pub twice_long : length twice ≡ signals
  pub once_bits : (s b : ℕ) → s < signals → b < 128 → has once s b ≡ (input s || nat_lt 0 (times s b))
  pub twice_bits : (s b : ℕ) → s < signals → b < 128 → has twice s b ≡ nat_le (if input s then 1 else 2) (times s b)

-- all bits of the inputs, and no others
pub record AreInputs (signals : List Signal) (masks : List ℕ) : Type 0 where
  pub long : length masks ≡ length signals
  pub bits : (s b : ℕ) → s < length signals → b < 128 → has masks s b ≡ input_fits signals s

-- the bits that are driven too often
pub record AreTooOften (d : Design) (twice : List ℕ) : Type 0 where
  pub long : length twice ≡ length d.signals.items
  pub bits : (s b : ℕ) → s < length d.signals.items → b < 128 → has twice s b ≡ nat_le (if input_fits d.signals.items s then 1 else 2) (driven_times d s b)
