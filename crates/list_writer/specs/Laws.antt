-- What the laws of a listing are said of.
use Rattle.std.specs.Prelude.{ℕ, ◌≡◌, List, [], ◌∷◌, ◌++◌, Option}
use Rattle.write_order.specs.Writes.{Outputs}
use Rattle.list_writer.specs.declared.outcome.Outcome.{Outcome}
use Rattle.list_writer.specs.Asked.{Asked}
use Rattle.list_writer.specs.Checkpoints.{AreSaved, Checkpoint}
use Rattle.list_writer.specs.Due.{IsListed}

-- a listing that came to its end
pub record Listed : Type 0 where
  pub asked : Asked
  pub outputs : Outputs
  pub status : ℕ
  pub is : IsListed asked outputs status

-- and the whole list of its problem
pub record WithList : Type 0 where
  pub asked : Asked
  pub outputs : Outputs
  pub status : ℕ
  pub is : IsListed asked outputs status
  pub list : List (List ℕ)

-- what stands of checkpoints, the last of those that were put whole, and those before it
pub record WithCheckpoints : Type 0 where
  pub asked : Asked
  pub prefix : List ℕ
  pub was : List ℕ → Option (List ℕ)
  pub is : List ℕ → Option (List ℕ)
  pub outcome : Outcome
  pub saved : AreSaved asked prefix was is outcome
  pub before : List Checkpoint
  pub last : Checkpoint
  pub are : saved.made ≡ before ++ last ∷ []
