-- A log as the list of its steps.
use Rattle.std.specs.Prelude.{◌≡◌, ℕ, List, [], ◌∷◌, length, get_or}
use Rattle.clause_base.specs.declared.literal.Lit.{Lit}
use Rattle.clause_base.specs.declared.log.Step.{Step}
use Rattle.clause_base.specs.declared.log.StepKind.{StepKind}
use Rattle.clause_base.specs.declared.log.StepKind.TheVariants.{Block}
use Rattle.clause_base.specs.Literal.{AllDistinct}

-- the steps whose kinds, clauses and chains are these
abbrev pub steps_of : List StepKind → List (List Lit) → List (List ℕ) → List Step
steps_of [] clauses chains = []
steps_of (kind ∷ kinds) [] chains = []
steps_of (kind ∷ kinds) (clause ∷ clauses) [] = []
steps_of (kind ∷ kinds) (clause ∷ clauses) (chain ∷ chains) =
    record { kind = kind; clause = clause; chain = chain } ∷ steps_of kinds clauses chains

-- there are as many kinds as clauses and chains, and each clause has distinct variables
pub record AreAligned (kinds : List StepKind) (clauses : List (List Lit)) (chains : List (List ℕ)) : Type 0 where
  pub clause_each : length clauses ≡ length kinds
  pub chain_each : length chains ≡ length kinds
  pub distinct : AllDistinct clauses

-- the step that stands for one past the log's end
abbrev pub no_step : Step
no_step = record { kind = Block; clause = []; chain = [] }

-- the step at that place, counted from 0
abbrev pub step_at : List Step → ℕ → Step
step_at log place = get_or log place no_step
