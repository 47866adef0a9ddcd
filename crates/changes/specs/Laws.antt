-- What the laws are said of.
use Rattle.std.specs.Prelude.{ℕ, Bool, List}
use Rattle.design_core.specs.declared.design.Design.{Design}
use Rattle.design_core.specs.declared.trace.Trace.{Trace}
use Rattle.design_core.specs.Valuation.{Valuation}
use Rattle.design_core.specs.Run.{Choices}
use Rattle.changes.specs.Changes.{Changes}

-- an order of a design's drivers, a trace, values of some places, changes and a run
pub record Changed : Type 0 where
  pub design : Design
  pub order : List ℕ
  pub trace : Trace
  pub places : ℕ → Bool
  pub values : Choices
  pub changes : Changes
  pub run : List Valuation

-- the same with other changes and another run
pub record TwoChanged : Type 0 where
  pub one : Changed
  pub changes : Changes
  pub run : List Valuation
