-- What a solver begins with, what blocking a clause makes of it, and which steps it may take over.
use Rattle.std.specs.Prelude.{◌≡◌, ℕ, ◌≤◌, false, Option, None, List, [], ◌∷◌, ◌++◌, length, take, map, replicate}
use Rattle.clause_base.specs.declared.literal.Lit.{Lit}
use Rattle.clause_base.specs.declared.log.Step.{Step}
use Rattle.clause_base.specs.declared.log.StepKind.TheVariants.{Block}
use Rattle.clause_base.specs.Literal.{AreWithin}
use Rattle.clause_base.specs.Acceptance.{IsAccepted}
use Rattle.sat_core.specs.SolverState.{SolverState, blocks_of}

-- the solver of this form, which prefers these variables, with no step yet, and each variable false in its model
pub record Begins (vars : ℕ) (form : List (List Lit)) (preferred : List ℕ) (s : SolverState) : Type 0 where
  pub vars_are : s.vars ≡ vars
  pub form_is : s.form ≡ form
  pub preferred_are : s.preferred ≡ preferred
  pub no_step : s.log ≡ []
  pub all_false : s.model ≡ replicate vars false

-- what stays told where steps are added
abbrev pub told_after : List Step → Option (List Lit) → Option (List Lit)
told_after [] told = told
told_after (step ∷ steps) told = None

-- the solver with one block more
abbrev pub with_block : SolverState → List Lit → SolverState
with_block s block = record { vars = s.vars; form = s.form; preferred = s.preferred; log = s.log ++ record { kind = Block; clause = block; chain = [] } ∷ []; model = s.model; told = None }

-- the solver with these steps more
abbrev pub with_steps : SolverState → List Step → SolverState
with_steps s steps = record { vars = s.vars; form = s.form; preferred = s.preferred; log = s.log ++ steps; model = s.model; told = told_after steps s.told }

-- the same solver, which tells nothing of the last answer
abbrev pub untold : SolverState → SolverState
untold s = record s { told = None }

-- the steps may follow those that are there: with them the log is accepted, and their clauses are over the solver's variables
pub record MayFollow (s : SolverState) (steps : List Step) : Type 0 where
  pub accepted : IsAccepted s.form (blocks_of (s.log ++ steps)) (s.log ++ steps)
  pub within : AreWithin s.vars (map (λ step. step.clause) steps)

-- the solver took over some of the steps, from the first on
pub record TookOver (old new : SolverState) (steps : List Step) : Type 0 where
  pub count : ℕ
  pub within : count ≤ length steps
  pub is : new ≡ with_steps old (take count steps)
