-- Private, for the functions inside this crate: lines of steps that are read in parts.
use Rattle.std.specs.Prelude.{◌≡◌, ◌≤◌, ℕ, List, [], ◌∷◌, ◌++◌, length, map, All, IsTrue, IfSome, Option, Some, None, Result, Ok, Err}
use Rattle.std.specs.List.{between, flat_map}
use Rattle.loc_base.specs.declared.memory.NoMemory.{NoMemory}
use Rattle.clause_base.specs.declared.log.Step.{Step}
use Rattle.clause_base.specs.Literal.{has_distinct_variables}
use Rattle.proof_check.specs.declared.text.parts.Part.{Part}
use Rattle.proof_check.specs.Text.{CanBeWritten, step_line}

-- the text of the log's steps, each line with a newline after it
abbrev pub steps_text : List Step → List ℕ
steps_text log = flat_map (λ line. line ++ 10 ∷ []) (map step_line log)

-- the text is that of the log's steps, which can be written
pub record IsTextOf (text : List ℕ) (log : List Step) : Type 0 where
  pub is : text ≡ steps_text log
  pub steps : All CanBeWritten log
  pub distinct : All (λ step. IsTrue (has_distinct_variables step.clause)) log

-- the part lies in the text
pub record IsPartOf (text : List ℕ) (part : Part) : Type 0 where
  pub ordered : part.from ≤ part.end
  pub within : part.end ≤ length text

-- the parts have the text from one place up to another, one part behind the other
abbrev pub Covers : ℕ → ℕ → List Part → Type 0
Covers from end [] = from ≡ end
Covers from end (part ∷ parts) = (part.from ≡ from) × Covers part.end end parts

-- the part's text is that of the log's steps
abbrev pub ReadAs : List ℕ → Part → List Step → Type 0
ReadAs text part log = IsTextOf (between part.from part.end text) log

-- the same of each part, where something was read
abbrev pub AreReadAs : List ℕ → List Part → Option (List Step) → Type 0
AreReadAs text parts read = All (λ part. IfSome read (ReadAs text part)) parts

-- a log behind which the steps of all parts stand
abbrev pub Joined : List (Result (Option (List Step)) NoMemory) → List Step → List Step → Type 0
Joined [] old new = new ≡ old
Joined (Ok (Some part) ∷ rest) old new = Joined rest (old ++ part) new
Joined (Ok None ∷ rest) old new = ⊥
Joined (Err e ∷ rest) old new = ⊥
