-- What the laws are said of.
use Rattle.std.specs.Prelude.{ℕ, List}
use Rattle.design_core.specs.declared.design.Design.{Design}
use Rattle.design_core.specs.declared.trace.Trace.{Trace}
use Rattle.design_core.specs.Works.{Groups}

-- a design with its traces and suspects, and a set of these
pub record OneSet : Type 0 where
  pub design : Design
  pub traces : List Trace
  pub groups : Groups
  pub set : List ℕ

-- a design, a place, and a bit of a signal
pub record OneBit : Type 0 where
  pub design : Design
  pub place : ℕ
  pub signal : ℕ
  pub position : ℕ
