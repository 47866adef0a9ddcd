-- The steps by which the log of an enumerator shows that no set is missing before the last one.
use Rattle.std.specs.Prelude.{◌≡◌, ℕ, ◌<◌, ◌≤◌, Bool, true, false, List, length, All, Contains}
use Rattle.std.specs.List.{AllZip}
use Rattle.std.specs.List.Sorted.{IsStrictlyIncreasing}
use Rattle.clause_base.specs.declared.log.Step.{Step}
use Rattle.clause_base.specs.declared.log.StepKind.TheVariants.{Derived}
use Rattle.clause_base.specs.Literal.{has, negative, IsWithin}
use Rattle.clause_base.specs.Acceptance.{IsAcceptedStep}
use Rattle.clause_base.specs.Counted.{IsPassedOver, ShowsAbsent}
use Rattle.card_counter.specs.Shows.{ShowsSize}
use Rattle.sat_core.specs.SolverState.{blocks_of}
use Rattle.set_enum.specs.Bounds.{bound_of}
use Rattle.set_enum.specs.EnumState.{EnumState}

-- the numbers are those that the members pass over, ascending
pub record ArePassedOver (members passed : List ℕ) : Type 0 where
  pub ascending : IsStrictlyIncreasing passed
  pub are : All (IsPassedOver members) passed
  pub each : (x : ℕ) → IsPassedOver members x → Contains passed x

-- the step is derived and accepted after the log, and its clause shows x absent
pub record IsStepFor (s : EnumState) (members : List ℕ) (x : ℕ) (step : Step) : Type 0 where
  pub kind : step.kind ≡ Derived
  pub accepted : IsAcceptedStep s.form (blocks_of s.log) s.log step
  pub within : IsWithin s.vars step.clause
  pub itself : has step.clause (negative x) ≡ true
  pub absent : ShowsAbsent members (bound_of s.n s.k (length members)) x step.clause

-- the log shows that no set has fewer members; and the steps are one for each number that the members pass over, in ascending order
pub record IsCertificate (s : EnumState) (members : List ℕ) (steps : List Step) : Type 0 where
  pub size : ShowsSize s.n s.k (length members) s.log
  pub passed : List ℕ
  pub passed_over : ArePassedOver members passed
  pub steps_are : AllZip (IsStepFor s members) passed steps

-- Private, for the functions inside this crate: the greatest of the variables from 1 to n that the assignment makes true, 0 where there is none
pub record IsLastSelected (n : ℕ) (assignment : ℕ → Bool) (last : ℕ) : Type 0 where
  pub within : last ≤ n
  pub is_true : 1 ≤ last → assignment last ≡ true
  pub above : (v : ℕ) → last < v → v ≤ n → assignment v ≡ false
