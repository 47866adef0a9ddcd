-- Learned clauses that unit propagation lacked, and the ends of a search.
use Rattle.std.specs.Prelude.{◌≡◌, ℕ, ◌+◌, ◌-◌, ◌<◌, ◌≤◌, ◌⊎◌, Bool, true, false, List, [], ◌∷◌, length, take, get_or, Option, IsSomeAnd, All}
use Rattle.clause_base.specs.declared.literal.Lit.{Lit}
use Rattle.clause_base.specs.declared.log.Step.{Step}
use Rattle.clause_base.specs.declared.log.StepKind.TheVariants.{Learned, Derived}
use Rattle.clause_base.specs.Literal.{opposite, same_lit, has}
use Rattle.clause_base.specs.Steps.{step_at}
use Rattle.clause_base.specs.Acceptance.{clauses_of}

-- no two literals of the set are opposite
abbrev pub IsConsistent : (Lit → Bool) → Type 0
IsConsistent set = (l : Lit) → set l ≡ true → set (opposite l) ≡ false

-- where the literals of the set are true, the clause is neither unit nor false: it has a literal in the set,
-- or two literals whose opposites aren't in the set
abbrev pub IsAtRest : (Lit → Bool) → List Lit → Type 0
IsAtRest set clause =
    ((l : Lit) × (has clause l ≡ true) × (set l ≡ true))
    ⊎ ((l : Lit) × (m : Lit) × (same_lit l m ≡ false) × (has clause l ≡ true) × (has clause m ≡ true) × (set (opposite l) ≡ false) × (set (opposite m) ≡ false))

-- the clause is unit with the literal `tells` where the literals of the set are true, and no earlier clause is unit or false there
pub record TellsOf (earlier : List (List Lit)) (clause : List Lit) (tells : Lit) (set : Lit → Bool) : Type 0 where
  pub in_clause : has clause tells ≡ true
  pub consistent : IsConsistent set
  pub others_false : (l : Lit) → has clause l ≡ true → same_lit l tells ≡ false → set (opposite l) ≡ true
  pub not_true : set tells ≡ false
  pub not_false : set (opposite tells) ≡ false
  pub at_rest : All (IsAtRest set) earlier

-- there is a state in which unit propagation over the earlier clauses rests, and of which the clause tells something new
abbrev pub IsFresh : List (List Lit) → List Lit → Type 0
IsFresh earlier clause = (tells : Lit) × (set : Lit → Bool) × TellsOf earlier clause tells set

-- each learned step from that place on is fresh after the clauses before it
abbrev pub LearnedAreFresh : List (List Lit) → List Step → ℕ → Type 0
LearnedAreFresh form log from =
    (place : ℕ) → from ≤ place → place < length log → (step_at log place).kind ≡ Learned
    → IsFresh (clauses_of form (take place log)) (step_at log place).clause

-- the log's last step is derived, and its clause is empty or has the one literal `bound`, where there is one
pub record IsClosing (bound : Option Lit) (log : List Step) : Type 0 where
  pub has_last : 0 < length log
  pub derived : (step_at log (length log - 1)).kind ≡ Derived
  pub closes : ((step_at log (length log - 1)).clause ≡ []) ⊎ IsSomeAnd bound (λ l. (step_at log (length log - 1)).clause ≡ l ∷ [])
