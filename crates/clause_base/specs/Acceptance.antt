-- Which logs are accepted.
use Rattle.std.specs.Prelude.{◌≡◌, ℕ, ◌+◌, ◌-◌, ◌≤◌, ◌<◌, ◌⊎◌, Bool, true, false, List, [], ◌++◌, length, take, get_or, map, count_by, All}
use Rattle.clause_base.specs.declared.literal.Lit.{Lit}
use Rattle.clause_base.specs.declared.log.Step.{Step}
use Rattle.clause_base.specs.declared.log.StepKind.{StepKind}
use Rattle.clause_base.specs.declared.log.StepKind.TheVariants.{Block, Learned, Derived}
use Rattle.clause_base.specs.Satisfaction.{Satisfies}
use Rattle.clause_base.specs.Resolution.{IsResult}
use Rattle.clause_base.specs.Steps.{step_at}

-- the clauses of the form and then those of the steps, which are numbered from 1 in this order
abbrev pub clauses_of : List (List Lit) → List Step → List (List Lit)
clauses_of form log = form ++ map (λ step. step.clause) log

-- the clause with that number, counted from 1
abbrev pub numbered : List (List Lit) → ℕ → List Lit
numbered clauses number = get_or clauses (number - 1) []

-- the chain has numbers of the earlier clauses alone, and these give the clause
abbrev pub IsAcceptedChain : List (List Lit) → List ℕ → List Lit → Type 0
IsAcceptedChain earlier chain clause =
    All (λ number. (1 ≤ number) × (number ≤ length earlier)) chain × IsResult (map (numbered earlier) chain) clause

-- the kind is that of a block
abbrev pub is_block_kind : StepKind → Bool
is_block_kind Block = true
is_block_kind Learned = false
is_block_kind Derived = false

-- the step is a block
abbrev pub is_block : Step → Bool
is_block step = is_block_kind step.kind

-- how many of the steps are blocks
abbrev pub blocks_in : List Step → ℕ
blocks_in log = count_by is_block log

-- a block is the next of the listed blocks, and the chain of any other step gives its clause
abbrev pub IsAcceptedAs : StepKind → List (List Lit) → List (List Lit) → List Step → Step → Type 0
IsAcceptedAs Block form blocks earlier step =
    (blocks_in earlier < length blocks) × (step.clause ≡ get_or blocks (blocks_in earlier) [])
IsAcceptedAs Learned form blocks earlier step = IsAcceptedChain (clauses_of form earlier) step.chain step.clause
IsAcceptedAs Derived form blocks earlier step = IsAcceptedChain (clauses_of form earlier) step.chain step.clause

-- the step is accepted after the earlier ones
abbrev pub IsAcceptedStep : List (List Lit) → List (List Lit) → List Step → Step → Type 0
IsAcceptedStep form blocks earlier step = IsAcceptedAs step.kind form blocks earlier step

-- the step at that place, counted from 0, is accepted after those before it
abbrev pub IsAcceptedAt : List (List Lit) → List (List Lit) → List Step → ℕ → Type 0
IsAcceptedAt form blocks log place = IsAcceptedStep form blocks (take place log) (step_at log place)

-- each step is accepted after those before it, and every block has its step
pub record IsAccepted (form blocks : List (List Lit)) (log : List Step) : Type 0 where
  pub each_step : (place : ℕ) → place < length log → IsAcceptedAt form blocks log place
  pub every_block : blocks_in log ≡ length blocks

-- the number, counted from 1, of the least step that isn't accepted; where each step is and blocks are left over, one more than the steps are
pub record IsLeastRefused (form blocks : List (List Lit)) (log : List Step) (number : ℕ) : Type 0 where
  pub counted : 1 ≤ number
  pub before : (place : ℕ) → place + 1 < number → IsAcceptedAt form blocks log place
  pub refused : ((number ≤ length log) × ¬ (IsAcceptedAt form blocks log (number - 1)))
      ⊎ ((number ≡ length log + 1) × (blocks_in log < length blocks))

-- each assignment that satisfies the form and the blocks satisfies each clause of the log
abbrev pub Follows : List (List Lit) → List (List Lit) → List Step → Type 0
Follows form blocks log =
    (assignment : ℕ → Bool) → Satisfies assignment form → Satisfies assignment blocks → Satisfies assignment (map (λ step. step.clause) log)
