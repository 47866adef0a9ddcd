-- What a run goes on with: the sets of a report, each with values that explain the traces, which are a session with their log.
use Rattle.std.specs.Prelude.{ℕ, ◌≡◌, List, map, Err, Ok, Result, Vec}
use Rattle.std.specs.List.{AllZip}
use Rattle.std.specs.declared.alloc.Global.{Global}
use Rattle.design_core.specs.declared.values.SetWithValues.{SetWithValues}
use Rattle.design_core.specs.Explained.{AreValuesOf, Explains}
use Rattle.clause_base.specs.declared.literal.Lit.{Lit}
use Rattle.report_doc.specs.declared.types.ReportSet.{ReportSet}
use Rattle.debug_core.specs.Problems.{Problem, suspects_of}
use Rattle.debug_core.specs.Sessions.{IsSession}
use Rattle.list_verdict.specs.Claims.{AreItsValues, Claim}
use Rattle.list_verdict.specs.Verdicts.{IsFrontShown}
use Rattle.list_session.specs.declared.unfit.Unfit.{Unfit}
use Rattle.list_session.specs.Unfit.{IsUnfit}

-- the members of a set of the report, with the values that its texts say: a word for each of their places in each cycle of the traces, with
-- which each trace is right
pub record IsTakenSet (c : Claim) (set : ReportSet) (found : SetWithValues) : Type 0 where
  pub members : found.members ≡ set.members
  pub texts : AreItsValues c set found.values
  pub rows : AreValuesOf c.problem.design c.problem.traces (suspects_of c.problem) found.members found.values
  pub explains : Explains c.problem.design c.problem.traces (suspects_of c.problem) found.members found.values

-- the list is fit: the first four conditions hold, and the log shows that no set is missing before the last one; it is a session, and these
-- are its sets
pub record IsTakenUp (c : Claim) (found : List SetWithValues) : Type 0 where
  pub fit : IsFrontShown c
  pub session : IsSession c.problem c.form (map (λ set. set.members) found) c.log
  pub sets : AllZip (IsTakenSet c) c.sets found

-- what is answered: the sets with their values, or why the list is unfit
abbrev pub TakesUp : Claim → Result (Vec SetWithValues Global) Unfit → Type 0
TakesUp c (Ok found) = IsTakenUp c found.items
TakesUp c (Err what) = IsUnfit c what

-- ---- for laws
-- a list with an answer
pub record Asked : Type 0 where
  pub claim : Claim
  pub unfit : Unfit

-- two forms of a problem
pub record TwoForms : Type 0 where
  pub problem : Problem
  pub vars : ℕ
  pub form : List (List Lit)
  pub other_vars : ℕ
  pub other : List (List Lit)
