-- What of a freed design the design has itself: the bits of its signals, and its places.
use Rattle.std.specs.Prelude.{ℕ, ◌≡◌, ◌<◌, ◌≤◌, Bool, false, ◌&&◌, nat_lt, List, length, All}
use Rattle.design_core.specs.declared.design.Design.{Design}
use Rattle.design_core.specs.Valuation.{Valuation}
use Rattle.design_core.specs.DrivenOnce.{IsDrivenOnce}
use Rattle.design_core.specs.Reads.{IsOrder}
use Rattle.design_core.specs.WellFormed.{IsWellFormed}
use Rattle.design_core.specs.Works.{Groups}

-- a valuation with the bits of all signals but the design's at 0
abbrev pub old_bits : Design → Valuation → Valuation
old_bits d V s b = nat_lt s (length d.signals.items) && V s b

-- no place is freed but the design's
pub record FreesOld (d : Design) (frees : ℕ → Bool) : Type 0 where
  pub unfreed : (p : ℕ) → length d.places.items ≤ p → frees p ≡ false

-- each suspect has places of the design alone
abbrev pub AreOld : Design → Groups → Type 0
AreOld d groups = All (All (λ p. p < length d.places.items)) groups

-- a design that has one cycle for all samples, states and choices: well formed, each bit given its value once, its drivers in an order
pub record IsRunnable (d : Design) (order : List ℕ) : Type 0 where
  pub well_formed : IsWellFormed d
  pub once : IsDrivenOnce d
  pub in_order : IsOrder d order
