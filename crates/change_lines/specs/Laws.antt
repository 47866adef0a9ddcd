-- What the laws are said of.
use Rattle.std.specs.Prelude.{ℕ, List}
use Rattle.design_core.specs.declared.trace.Trace.{Trace}
use Rattle.design_core.specs.Valuation.{Valuation}
use Rattle.design_core.specs.After.{Choice}
use Rattle.change_lines.specs.Lines.{ChangeLine, Site, Told}

-- a place in a cycle, with an order of the design's drivers
pub record OfCycle : Type 0 where
  pub site : Site
  pub order : List ℕ
  pub choice : Choice
  pub values : Valuation
  pub place : ℕ

-- a set with an order of the drivers, and traces that are counted from a number on, whose rows begin at one
pub record ByOrder : Type 0 where
  pub told : Told
  pub order : List ℕ
  pub number : ℕ
  pub first : ℕ
  pub traces : List Trace

-- the same with two lists of lines
pub record OfSet : Type 0 where
  pub by : ByOrder
  pub one : List ChangeLine
  pub other : List ChangeLine
