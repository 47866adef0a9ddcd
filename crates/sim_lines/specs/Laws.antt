-- What the laws of the definitions are said of.
use Rattle.std.specs.Prelude.{ℕ, List}
use Rattle.design_core.specs.declared.design.Design.{Design}
use Rattle.design_core.specs.declared.trace.Trace.{Trace}

-- a design with an order of its drivers, and traces that are counted from a number on
pub record Given : Type 0 where
  pub design : Design
  pub order : List ℕ
  pub number : ℕ
  pub traces : List Trace
