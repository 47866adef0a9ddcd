-- What contracts see of an enumerator, and what holds of each.
use Rattle.std.specs.Prelude.{◌≡◌, ℕ, ◌+◌, ◌^◌, ◌<◌, ◌≤◌, ◌⊎◌, Bool, true, false, List, [], ◌∷◌, ◌++◌, length, map, take, replicate, Option}
use Rattle.std.specs.Prelude.{Some, None, IsSomeAnd, All, Contains}
use Rattle.std.specs.Option.{unwrap_or}
use Rattle.clause_base.specs.declared.literal.Lit.{Lit}
use Rattle.clause_base.specs.declared.log.Step.{Step}
use Rattle.clause_base.specs.declared.log.StepKind.{StepKind}
use Rattle.clause_base.specs.declared.log.StepKind.TheVariants.{Block, Learned, Derived}
use Rattle.clause_base.specs.Literal.{AllDistinct, AreWithin, IsWithin}
use Rattle.clause_base.specs.Acceptance.{clauses_of, is_block, IsAccepted, IsAcceptedStep}
use Rattle.clause_base.specs.Progress.{IsClosing}
use Rattle.card_counter.specs.InForm.{HasCounter}
use Rattle.sat_core.specs.SolverState.{blocks_of}
use Rattle.set_enum.specs.Sets.{IsSetOf, IsBlock, NoneBelow, block_of}
use Rattle.set_enum.specs.Bounds.{bound_of}

-- the form and its number of variables; how many of them, from 1 on, are selectors; the greatest size of a set; the size that
-- is searched, k + 1 once all are closed; the steps so far; the set that was answered last, until it is blocked or searched on;
-- and the last model's values, from variable 1 on
pub record EnumState : Type 0 where
  pub vars : ℕ
  pub form : List (List Lit)
  pub n : ℕ
  pub k : ℕ
  pub size : ℕ
  pub log : List Step
  pub last : Option (List ℕ)
  pub model : List Bool
  -- that set was the last answer, and no step was added since
  pub told : Bool

-- the clauses whose sets are listed: the form and the blocks
abbrev pub listed_over : EnumState → List (List Lit)
listed_over s = s.form ++ blocks_of s.log

-- a block has no chain
abbrev pub HasNoChain : StepKind → Step → Type 0
HasNoChain Block step = step.chain ≡ []
HasNoChain Learned step = Unit {0}
HasNoChain Derived step = Unit {0}

-- none of the steps is a block with a chain
abbrev pub AreChainless : List Step → Type 0
AreChainless steps = All (λ step. HasNoChain step.kind step) steps

-- some step has a clause that is empty or the bound at j alone
pub record ShowsBound (n k j : ℕ) (log : List Step) : Type 0 where
  pub step : Step
  pub in_log : Contains log step
  pub clause : (step.clause ≡ []) ⊎ IsSomeAnd (bound_of n k j) (λ bound. step.clause ≡ bound ∷ [])

-- what holds of each enumerator
pub record IsEnum (s : EnumState) : Type 0 where
  -- the form's first clauses count the selectors, and the others name no counter
  pub counter : HasCounter s.n s.k s.vars s.form
  pub small : s.vars < 2 ^ 32
  pub few : s.k ≤ 8
  -- the log is accepted with its blocks, over the form's variables
  pub accepted : IsAccepted s.form (blocks_of s.log) s.log
  pub within : AreWithin s.vars (clauses_of s.form s.log)
  pub distinct : AllDistinct (clauses_of s.form s.log)
  -- each block is that of a set of selectors, without a chain
  pub blocks : All (IsBlock s.n) (blocks_of s.log)
  pub chainless : AreChainless s.log
  -- no assignment of form and blocks selects fewer than `size`: at k + 1 there is no further set of at most k
  pub closed : NoneBelow s.n s.size (listed_over s)
  pub sizes : s.size ≤ s.k + 1
  -- at k + 1 the log's last step is derived, and its clause is empty or the bound at k alone
  pub closing : s.size ≡ s.k + 1 → IsClosing (bound_of s.n s.k s.k) s.log
  -- beyond size 0 some step shows that there is no smaller set
  pub shown : (j : ℕ) → s.size ≡ j + 1 → ShowsBound s.n s.k j s.log
  -- a set that isn't blocked yet is one of selectors, and there is none once all sizes are closed
  pub waits : (set : List ℕ) → s.last ≡ Some set → IsSetOf s.n set × (s.size ≤ s.k)

-- the enumerator of a form, before any search
abbrev pub begun : ℕ → List (List Lit) → ℕ → ℕ → EnumState
begun vars form n k = record { vars = vars; form = form; n = n; k = k; size = 0; log = []; last = None; model = replicate vars false; told = false }

-- with the last set blocked: one step more, its block
abbrev pub blocked : EnumState → EnumState
blocked s = record {
  vars = s.vars;
  form = s.form;
  n = s.n;
  k = s.k;
  size = s.size;
  log = s.log ++ record { kind = Block; clause = block_of (unwrap_or s.last []); chain = [] } ∷ [];
  last = None;
  model = s.model;
  told = false;
}

-- the same enumerator, which tells nothing of the last answer
abbrev pub untold : EnumState → EnumState
untold s = record s { told = false }

-- what stays told where steps are added
abbrev pub told_behind : List Step → Bool → Bool
told_behind [] told = told
told_behind (step ∷ steps) told = false

-- with these steps more
abbrev pub with_imported : EnumState → List Step → EnumState
with_imported s steps = record {
  vars = s.vars;
  form = s.form;
  n = s.n;
  k = s.k;
  size = s.size;
  log = s.log ++ steps;
  last = s.last;
  model = s.model;
  told = told_behind steps s.told;
}

-- the steps may be imported: sizes are still open, the steps are accepted behind those that are there, with their blocks and over
-- the form's variables, and each block is that of a set of selectors, without a chain
pub record MayBeImported (s : EnumState) (steps : List Step) : Type 0 where
  pub open_size : s.size ≤ s.k
  pub accepted : IsAccepted s.form (blocks_of (s.log ++ steps)) (s.log ++ steps)
  pub within : AreWithin s.vars (map (λ step. step.clause) steps)
  pub blocks : All (IsBlock s.n) (blocks_of steps)
  pub chainless : AreChainless steps

-- the step may be taken over: sizes are still open, a block is that of a set of selectors, without a chain, another step is accepted behind
-- those that are there, and its clause is over the form's variables
pub record MayBeTakenOver (s : EnumState) (step : Step) : Type 0 where
  pub open_size : s.size ≤ s.k
  pub block : is_block step ≡ true → IsBlock s.n step.clause
  pub chainless : HasNoChain step.kind step
  pub accepted : is_block step ≡ false → IsAcceptedStep s.form (blocks_of s.log) s.log step
  pub within : IsWithin s.vars step.clause

-- some of the steps were imported, from the first on
pub record ImportedSome (old new : EnumState) (steps : List Step) : Type 0 where
  pub count : ℕ
  pub within : count ≤ length steps
  pub is : new ≡ with_imported old (take count steps)
