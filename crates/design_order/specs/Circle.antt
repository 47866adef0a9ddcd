-- A circle as a list of numbers.
use Rattle.std.specs.Prelude.{ℕ, ◌<◌, List, [], ◌∷◌, length}
use Rattle.design_core.specs.declared.design.Design.{Design}
use Rattle.design_core.specs.Reads.{Depends}
use Rattle.design_core.specs.Order.{Leads}

-- numbers below n of which each depends on the next one, and the last on the first
abbrev pub IsCircleOf : (ℕ → ℕ → Type 0) → ℕ → List ℕ → Type 0
IsCircleOf D n [] = ⊥
IsCircleOf D n (i ∷ path) = (i < n) × Leads D i path i

-- drivers of a design that depend on each other in a circle
abbrev pub IsCircle : Design → List ℕ → Type 0
IsCircle d drivers = IsCircleOf (Depends d) (length d.drivers.items) drivers
