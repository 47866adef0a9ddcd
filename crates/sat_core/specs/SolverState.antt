-- What a solver knows: a form, the variables that are to be true where they can be, and a log of steps.
use Rattle.std.specs.Prelude.{◌≡◌, ℕ, ◌-◌, ◌^◌, ◌<◌, Bool, true, false, Option, List, map, filter, length, slice_index_or, IsTrue, All}
use Rattle.clause_base.specs.declared.literal.Lit.{Lit}
use Rattle.clause_base.specs.declared.log.Step.{Step}
use Rattle.clause_base.specs.Literal.{AllDistinct, AreWithin}
use Rattle.clause_base.specs.Satisfaction.{value_of, Satisfies}
use Rattle.clause_base.specs.Acceptance.{clauses_of, is_block, IsAccepted}

-- what contracts see of a solver
pub record SolverState : Type 0 where
  pub vars : ℕ
  pub form : List (List Lit)
  pub preferred : List ℕ
  pub log : List Step
  pub model : List Bool
  -- the assumptions of the last answer, where it was a model and no step was added since
  pub told : Option (List Lit)

-- the clauses that were blocked, in order
abbrev pub blocks_of : List Step → List (List Lit)
blocks_of log = map (λ step. step.clause) (filter is_block log)

-- what holds of each solver: its log is accepted, with the clauses that were blocked
pub record IsSolver (s : SolverState) : Type 0 where
  -- the variables are numbers of 32 bits
  pub small : s.vars < 2 ^ 32
  pub accepted : IsAccepted s.form (blocks_of s.log) s.log
  pub within : AreWithin s.vars (clauses_of s.form s.log)
  pub distinct : AllDistinct (clauses_of s.form s.log)

-- the assignment that lists the variables' values from variable 1 on
abbrev pub assignment_of : List Bool → ℕ → Bool
assignment_of model v = slice_index_or model (v - 1) false

-- the assignment makes each of the literals true
abbrev pub MakesTrue : (ℕ → Bool) → List Lit → Type 0
MakesTrue assignment literals = All (λ l. IsTrue (value_of assignment l)) literals

-- at the first of the variables on which the two assignments differ, a has true
abbrev pub IsAtLeast : List ℕ → (ℕ → Bool) → (ℕ → Bool) → Type 0
IsAtLeast variables a b =
    (i : ℕ) → i < length variables
    → ((j : ℕ) → j < i → a (slice_index_or variables j 0) ≡ b (slice_index_or variables j 0))
    → b (slice_index_or variables i 0) ≡ true → a (slice_index_or variables i 0) ≡ true

-- the model satisfies form, log and assumptions, and of all assignments that do its values of the preferred variables
-- are the lexicographically greatest
pub record IsGreatestModel (s : SolverState) (assume : List Lit) : Type 0 where
  pub satisfies : Satisfies (assignment_of s.model) (clauses_of s.form s.log)
  pub assumed : MakesTrue (assignment_of s.model) assume
  pub greatest : (other : ℕ → Bool) → Satisfies other (clauses_of s.form s.log) → MakesTrue other assume → IsAtLeast s.preferred (assignment_of s.model) other
