-- Why a preferred variable is false in the last model, and which decisions that rests on.
use Rattle.std.specs.Prelude.{◌≡◌, ℕ, ◌<◌, true, false, Option, Some, None, List, [], length, slice_index_or, IsSome, Contains}
use Rattle.clause_base.specs.declared.literal.Lit.{Lit}
use Rattle.clause_base.specs.declared.log.Step.{Step}
use Rattle.clause_base.specs.declared.log.StepKind.TheVariants.{Derived}
use Rattle.clause_base.specs.Literal.{opposite, positive, negative, has, has_variable, IsWithin}
use Rattle.clause_base.specs.Acceptance.{IsAcceptedStep}
use Rattle.sat_core.specs.SolverState.{SolverState, blocks_of, assignment_of}

-- the literal is an assumption, or a preferred variable before the place
pub data IsDecidedBefore (assume : List Lit) (preferred : List ℕ) (place : ℕ) (l : Lit) : Type 0 where
  assumed : (k : ℕ) → k < length assume → ((d : Lit) → l ≡ slice_index_or assume k d) → IsDecidedBefore assume preferred place l
  preferred_before : (j : ℕ) → j < place → l ≡ positive (slice_index_or preferred j 0) → IsDecidedBefore assume preferred place l

-- the assumptions that are told, if any
abbrev pub assumptions : Option (List Lit) → List Lit
assumptions None = []
assumptions (Some assume) = assume

-- the variable is preferred, false in the model that was the last answer, and in no assumption of it; no step was added since
pub record MayExplain (s : SolverState) (var : ℕ) : Type 0 where
  pub told : IsSome s.told
  pub preferred : Contains s.preferred var
  pub is_false : assignment_of s.model var ≡ false
  pub free : has_variable (assumptions s.told) var ≡ false

-- the literal is the variable's negation, that of an assumption, or that of a variable which is preferred before the place and
-- true in the model
pub data MayStand (s : SolverState) (var place : ℕ) (l : Lit) : Type 0 where
  itself : l ≡ negative var → MayStand s var place l
  of_assumption : has (assumptions s.told) (opposite l) ≡ true → MayStand s var place l
  of_earlier : (before : ℕ) → before < place → l ≡ negative (slice_index_or s.preferred before 0) → assignment_of s.model l.var ≡ true → MayStand s var place l

-- the step is derived and accepted after the log, and says that the variable is false under assumptions and true variables that
-- are preferred before it
pub record Explains (s : SolverState) (var : ℕ) (step : Step) : Type 0 where
  pub kind : step.kind ≡ Derived
  pub accepted : IsAcceptedStep s.form (blocks_of s.log) s.log step
  pub within : IsWithin s.vars step.clause
  pub itself : has step.clause (negative var) ≡ true
  pub literals : (place : ℕ) → place < length s.preferred → slice_index_or s.preferred place 0 ≡ var
      → (l : Lit) → has step.clause l ≡ true → MayStand s var place l
