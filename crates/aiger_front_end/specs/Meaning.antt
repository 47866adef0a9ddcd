-- Which design an AIGER text means: the design of its file, whose drivers stand in an order.
use Rattle.std.specs.Prelude.{ℕ, List, Option}
use Rattle.design_core.specs.declared.design.Design.{Design}
use Rattle.design_core.specs.Order.{HasCircle}
use Rattle.aiger_design.specs.Means.{IsFile}

-- by the top's name, and the clock if one is named: the design is its file's, and no drivers of it depend on each other in a circle
pub record Means (text top : List ℕ) (clock : Option (List ℕ)) (d : Design) : Type 0 where
  pub is_file : IsFile text top clock d
  pub no_circle : ¬ HasCircle d
