-- What a call of `solve` answers, and what it adds to the log.
use Rattle.std.specs.Prelude.{◌≡◌, ℕ, ◌+◌, ◌-◌, ◌<◌, ◌≤◌, Bool, true, false, Option, Some, None, List, length, take, drop, count_by, Result, Ok, Err}
use Rattle.clause_base.specs.declared.literal.Lit.{Lit}
use Rattle.clause_base.specs.declared.log.Step.{Step}
use Rattle.clause_base.specs.declared.log.StepKind.{StepKind}
use Rattle.clause_base.specs.declared.log.StepKind.TheVariants.{Block, Learned, Derived}
use Rattle.clause_base.specs.Literal.{opposite, has}
use Rattle.clause_base.specs.Steps.{step_at}
use Rattle.clause_base.specs.Acceptance.{is_block}
use Rattle.clause_base.specs.Progress.{LearnedAreFresh}
use Rattle.loc_base.specs.declared.memory.NoMemory.{NoMemory}
use Rattle.sat_core.specs.declared.verdict.Verdict.{Verdict}
use Rattle.sat_core.specs.declared.verdict.Verdict.TheVariants as verdict
use Rattle.sat_core.specs.SolverState.{SolverState, IsGreatestModel}

abbrev pub is_learned_kind : StepKind → Bool
is_learned_kind Block = false
is_learned_kind Learned = true
is_learned_kind Derived = false

-- the step is learned
abbrev pub is_learned : Step → Bool
is_learned step = is_learned_kind step.kind

abbrev pub is_derived_kind : StepKind → Bool
is_derived_kind Block = false
is_derived_kind Learned = false
is_derived_kind Derived = true

-- the step is derived
abbrev pub is_derived : Step → Bool
is_derived step = is_derived_kind step.kind

-- the steps that were added to a log
abbrev pub added : List Step → List Step → List Step
added old new = drop (length old) new

-- the log grew by no block, by as many learned steps as units were taken, each of which tells unit propagation something new,
-- and by so many derived steps
pub record Grows (form : List (List Lit)) (old new : List Step) (budget left derived : ℕ) : Type 0 where
  pub prefix : take (length old) new ≡ old
  pub no_block : count_by is_block (added old new) ≡ 0
  pub units : count_by is_learned (added old new) + left ≡ budget
  pub fresh : LearnedAreFresh form new (length old)
  pub derived_steps : count_by is_derived (added old new) ≡ derived

-- each step that was added, but the last, is learned
abbrev pub LearnedBeforeLast : List Step → List Step → Type 0
LearnedBeforeLast old new = (place : ℕ) → length old ≤ place → place + 1 < length new → (step_at new place).kind ≡ Learned

-- what a call of `solve` changes, `derived` being the number of derived steps that it adds
pub record Searches (old new : SolverState) (budget left derived : ℕ) : Type 0 where
  pub vars : new.vars ≡ old.vars
  pub form : new.form ≡ old.form
  pub preferred : new.preferred ≡ old.preferred
  pub grows : Grows old.form old.log new.log budget left derived

-- the log's last step has this number, counted from 1, and is derived, of negated assumptions alone
pub record IsRefuted (log : List Step) (number : ℕ) (assume : List Lit) : Type 0 where
  pub last : number ≡ length log
  pub some : 0 < length log
  pub derived : (step_at log (number - 1)).kind ≡ Derived
  pub negated : (l : Lit) → has (step_at log (number - 1)).clause l ≡ true → has assume (opposite l) ≡ true

-- what the verdict says
abbrev pub Says : SolverState → List Lit → ℕ → Verdict → Type 0
Says s assume left verdict.Model = (0 < left) × IsGreatestModel s assume
Says s assume left (verdict.Closed step) = (0 < left) × IsRefuted s.log step assume
Says s assume left verdict.Spent = left ≡ 0

-- the assumptions that are told after an answer: those of a model
abbrev pub told_by : List Lit → Result Verdict NoMemory → Option (List Lit)
told_by assume (Ok verdict.Model) = Some assume
told_by assume (Ok (verdict.Closed step)) = None
told_by assume (Ok verdict.Spent) = None
told_by assume (Err e) = None

abbrev pub closings_of : Verdict → ℕ
closings_of verdict.Model = 0
closings_of (verdict.Closed step) = 1
closings_of verdict.Spent = 0

-- how many derived steps come with the answer
abbrev pub closings : Result Verdict NoMemory → ℕ
closings (Ok v) = closings_of v
closings (Err e) = 0
