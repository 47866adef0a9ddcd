-- Runs of the program, with what their words ask for.
use Rattle.std.specs.Prelude.{ℕ, List}
use Rattle.command_contract.specs.Contract.{Run}
use Rattle.design_core.specs.declared.place.Place.{Place}
use Rattle.suspect_map.specs.declared.group.Group.{Group}
use Rattle.requests.specs.Asked.{CheckAsked, FindAsked}

-- a run for these words that ended with a status: the names of the kinds of suspects that there are, which suspects they make of a
-- design's places, and what shelf and sink tell before and after it
pub record WordsRun : Type 0 where
  pub known : List (List ℕ)
  pub suspecting : List (List ℕ) → List Place → List Group
  pub words : List (List ℕ)
  pub run : Run
  pub status : ℕ

-- a run whose words ask for a list
pub record FindRun : Type 0 where
  pub of : WordsRun
  pub asked : FindAsked

-- a run whose words ask for a check
pub record CheckRun : Type 0 where
  pub of : WordsRun
  pub asked : CheckAsked
