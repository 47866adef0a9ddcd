-- The lines of the steps.
use Rattle.std.specs.Prelude.{◌≡◌, ◌≢◌, ℕ, ◌+◌, ◌<◌, ◌⊎◌, List, [], ◌∷◌, ◌++◌, length, get_or, map, All, IsTrue, Option, MatchOption, Bool, true, false}
use Rattle.clause_base.specs.declared.log.Step.{Step}
use Rattle.clause_base.specs.Literal.{has_distinct_variables}
use Rattle.proof_check.specs.Text.{CanBeWritten, step_line, IsLine}

-- the line is a step's
abbrev pub IsStepLine : List ℕ → Type 0
IsStepLine line = (step : Step) × CanBeWritten step × IsTrue (has_distinct_variables step.clause) × (line ≡ step_line step)

-- the step was appended where the line has one; else the log is as it was
abbrev pub Appended : Option Step → List Step → List Step → Bool → Type 0
Appended meaning old new read = MatchOption meaning ((read ≡ false) × (new ≡ old)) (λ step. (read ≡ true) × (new ≡ old ++ step ∷ []))

-- the pieces are the lines of the log's steps, and nothing after the last newline
pub record AreStepLines (text_pieces : List (List ℕ)) (log : List Step) : Type 0 where
  pub lines : text_pieces ≡ map step_line log ++ [] ∷ []
  pub steps : All CanBeWritten log
  pub distinct : All (λ step. IsTrue (has_distinct_variables step.clause)) log

-- the piece at that place is the first that isn't right, where each line is to be a step's
pub record IsFirstBadStep (text_pieces : List (List ℕ)) (place : ℕ) : Type 0 where
  pub within : place < length text_pieces
  pub before : (k : ℕ) → k < place → IsStepLine (get_or text_pieces k [])
  pub bad : ((place + 1 < length text_pieces) × ¬ (IsStepLine (get_or text_pieces place [])))
      ⊎ ((place + 1 ≡ length text_pieces) × (get_or text_pieces place [] ≢ []))

-- the first of the pieces is no line that is right at that place
abbrev pub LacksLine : ℕ → List (List ℕ) → Type 0
LacksLine place text_pieces =
    ((1 < length text_pieces) × ¬ (IsLine place (get_or text_pieces 0 []))) ⊎ (length text_pieces ≡ 1)
