-- What the laws of waves are said of.
use Rattle.std.specs.Prelude.{ℕ, List}
use Rattle.design_core.specs.declared.values.SetWithValues.{SetWithValues}
use Rattle.set_waves.specs.Waved.{Waved}

-- what waves are of, by an order of the design's drivers, and sets with values
pub record WithSets : Type 0 where
  pub waved : Waved
  pub order : List ℕ
  pub sets : List SetWithValues

-- the names of two waves
pub record TwoNames : Type 0 where
  pub prefix : List ℕ
  pub set : ℕ
  pub trace : ℕ
  pub other_set : ℕ
  pub other_trace : ℕ
