-- What the laws are said of.
use Rattle.std.specs.Prelude.{ℕ, List}
use Rattle.design_core.specs.declared.design.Design.{Design}
use Rattle.design_core.specs.declared.trace.Trace.{Trace}
use Rattle.design_core.specs.Run.{Choices}
use Rattle.design_core.specs.Works.{Groups}

-- a design with its traces and suspects, a largest size, a list for each trace, and one for all
pub record ByTrace : Type 0 where
  pub design : Design
  pub traces : List Trace
  pub groups : Groups
  pub size : ℕ
  pub lists : List (List (List ℕ))
  pub sets : List (List ℕ)

-- the same with a set of suspects
pub record OneSet : Type 0 where
  pub of : ByTrace
  pub set : List ℕ

-- a design with one trace, its suspects and a largest size, and values that nothing asks for
pub record Passing : Type 0 where
  pub design : Design
  pub trace : Trace
  pub groups : Groups
  pub size : ℕ
  pub choices : Choices
