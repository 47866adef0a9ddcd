-- An analysis that has begun with no clause.
use Rattle.std.specs.Prelude.{◌≡◌, []}
use Rattle.sat_core.specs.declared.analysis.Analysis.{Analysis}
use Rattle.sat_core.specs.Derivation.{IsClean}

-- no variable is marked, and there is no literal and no clause
pub record IsEmpty (a : Analysis) : Type 0 where
  pub clean : IsClean a.marked.items
  pub literals : a.literals.items ≡ []
  pub chain : a.chain.items ≡ []
  pub present : a.present ≡ 0
