-- Logs whose learned steps may be counted: what else a search may have put into its log.
use Rattle.std.specs.Prelude.{◌≡◌, ℕ, ◌+◌, ◌-◌, ◌<◌, ◌≤◌, ◌⊎◌, Bool, true, false, List, [], ◌∷◌, length, take, drop, get_or, count_by, Option, Some, Contains}
use Rattle.clause_base.specs.declared.literal.Lit.{Lit}
use Rattle.clause_base.specs.declared.log.Step.{Step}
use Rattle.clause_base.specs.declared.log.StepKind.{StepKind}
use Rattle.clause_base.specs.declared.log.StepKind.TheVariants.{Block, Learned, Derived}
use Rattle.clause_base.specs.Literal.{positive, negative, has}
use Rattle.clause_base.specs.Steps.{step_at}
use Rattle.clause_base.specs.Progress.{LearnedAreFresh}

-- the step is derived
abbrev pub is_derived_kind : StepKind → Bool
is_derived_kind Block = false
is_derived_kind Learned = false
is_derived_kind Derived = true

-- the clause is empty, or the bound of some size j alone: the bounds are those of the sizes from 0 on, as far as there are any
abbrev pub EndsASize : List Lit → List Lit → Type 0
EndsASize bounds clause = (clause ≡ []) ⊎ ((j : ℕ) × (j < length bounds) × (clause ≡ get_or bounds j (positive 0) ∷ []))

-- x is a suspect that isn't a member, and less than the greatest member
pub record IsPassedOver (members : List ℕ) (x : ℕ) : Type 0 where
  pub suspect : 1 ≤ x
  pub no_member : Contains members x → ⊥
  pub greater : (m : ℕ) × Contains members m × (x < m)

-- the clause's literals are among the negation of x, the negations of the members below x, and the bound, where there is one
abbrev pub ShowsAbsent : List ℕ → Option Lit → ℕ → List Lit → Type 0
ShowsAbsent members bound x clause =
    (l : Lit) → has clause l ≡ true → (l ≡ negative x) ⊎ (((m : ℕ) × Contains members m × (m < x) × (l ≡ negative m)) ⊎ (bound ≡ Some l))

-- from a place on, the learned steps are fresh; the derived steps before `tail` end a size each, and are at most as many as
-- there are sizes; the steps from `tail` on are derived, and each shows another suspect absent, which isn't a member and is
-- less than the greatest member
pub record IsCountedTo (form : List (List Lit)) (bounds : List Lit) (sizes suspects : ℕ) (members : List ℕ) (bound : Option Lit) (log : List Step) (from tail : ℕ) (absent : ℕ → ℕ) : Type 0 where
  pub fresh : LearnedAreFresh form log from
  pub from_before : from ≤ tail
  pub tail_within : tail ≤ length log
  pub ends : (place : ℕ) → from ≤ place → place < tail → (step_at log place).kind ≡ Derived → EndsASize bounds (step_at log place).clause
  pub few_ends : count_by (λ step. is_derived_kind step.kind) (drop from (take tail log)) ≤ sizes
  pub few_shown : length log - tail ≤ suspects
  pub derived : (place : ℕ) → tail ≤ place → place < length log → (step_at log place).kind ≡ Derived
  pub shown : (place : ℕ) → tail ≤ place → place < length log → ShowsAbsent members bound (absent place) (step_at log place).clause
  pub passed_over : (place : ℕ) → tail ≤ place → place < length log → IsPassedOver members (absent place)
  pub apart : (i j : ℕ) → tail ≤ i → i < j → j < length log → absent i ≡ absent j → ⊥

-- for some such place, and some suspect for each step from it on
abbrev pub IsCounted : List (List Lit) → List Lit → ℕ → ℕ → List ℕ → Option Lit → List Step → ℕ → Type 0
IsCounted form bounds sizes suspects members bound log from =
    (tail : ℕ) × (absent : ℕ → ℕ) × IsCountedTo form bounds sizes suspects members bound log from tail absent
