-- What a refusal says.
use Rattle.std.specs.Prelude.{ℕ, length}
use Rattle.design_core.specs.declared.design.Design.{Design}
use Rattle.design_core.specs.Reads.{Depends}
use Rattle.design_order.specs.declared.error.OrderErr.{OrderErr}
use Rattle.design_order.specs.declared.error.OrderErr.TheVariants.{NoMemory, Circle}
use Rattle.design_order.specs.Circle.{IsCircleOf}

-- a refusal: with a circle, but at want of memory
abbrev pub IsRefused : (ℕ → ℕ → Type 0) → ℕ → OrderErr → Type 0
IsRefused D n NoMemory = Unit {0}
IsRefused D n (Circle drivers) = IsCircleOf D n drivers.items

-- with drivers of a design that depend on each other in a circle
abbrev pub IsRefusal : Design → OrderErr → Type 0
IsRefusal d error = IsRefused (Depends d) (length d.drivers.items) error
