-- What is judged of a list.
use Rattle.std.specs.Prelude.{ℕ, ◌≡◌, List, All, map}
use Rattle.design_core.specs.declared.values.Values.{Values}
use Rattle.design_core.specs.Explained.{Explains}
use Rattle.report_doc.specs.declared.types.ReportSet.{ReportSet}
use Rattle.debug_core.specs.Debugging.{IsFrontOf, IsListOf}
use Rattle.debug_core.specs.Problems.{suspects_of}
use Rattle.list_verdict.specs.declared.verdict.Verdict.{Verdict}
use Rattle.list_verdict.specs.declared.verdict.Verdict.TheVariants as verdict
use Rattle.list_verdict.specs.Claims.{AreItsValues, Claim}
use Rattle.list_verdict.specs.Conditions.{AreInOrder, AreRight, Closes, IsAcceptedLog, IsFirstOutOfOrder, IsFirstRefusedStep, IsFirstToHold, IsFirstToMiss, NoneHolds, ShowsLast}

-- the list is whole by its log: all five conditions hold
pub record IsWhole (c : Claim) : Type 0 where
  pub in_order : AreInOrder c
  pub none_holds : NoneHolds c.sets
  pub right : AreRight c
  pub accepted : IsAcceptedLog c
  pub closes : Closes c

-- the list is a front by its log: the first four conditions hold, and the log shows that no set is missing before the last one
pub record IsFrontShown (c : Claim) : Type 0 where
  pub in_order : AreInOrder c
  pub none_holds : NoneHolds c.sets
  pub right : AreRight c
  pub accepted : IsAcceptedLog c
  pub shows : ShowsLast c

-- the first condition that fails is named, with the first set or step by which it does; where it is the last one, it is said whether the log
-- shows a front
abbrev pub IsVerdict : Claim → Verdict → Type 0
IsVerdict c verdict.Whole = IsWhole c
IsVerdict c (verdict.Order set) = IsFirstOutOfOrder c set
IsVerdict c (verdict.Contains set other) = AreInOrder c × IsFirstToHold c.sets set other
IsVerdict c (verdict.Replay set miss) = AreInOrder c × NoneHolds c.sets × IsFirstToMiss c set miss
IsVerdict c (verdict.Step number) = AreInOrder c × NoneHolds c.sets × AreRight c × IsFirstRefusedStep c number
IsVerdict c verdict.Front = AreInOrder c × NoneHolds c.sets × AreRight c × IsAcceptedLog c × (¬ Closes c) × ShowsLast c
IsVerdict c verdict.Open = AreInOrder c × NoneHolds c.sets × AreRight c × IsAcceptedLog c × (¬ Closes c) × (¬ ShowsLast c)

-- the members of each set
abbrev pub members_of : List ReportSet → List (List ℕ)
members_of sets = map (λ set. set.members) sets

-- a set's texts say values, and with them each trace is right
pub record IsExplained (c : Claim) (set : ReportSet) : Type 0 where
  pub values : Values
  pub are_its : AreItsValues c set values
  pub explains : Explains c.problem.design c.problem.traces (suspects_of c.problem) set.members values

-- the sets are the list of the problem, and the values of each explain the traces
pub record IsWholeList (c : Claim) : Type 0 where
  pub list : IsListOf c.problem (members_of c.sets)
  pub explained : All (IsExplained c) c.sets

-- where the answer is that the list is whole, its sets are the problem's list
abbrev pub IsWholeListIf : Claim → Verdict → Type 0
IsWholeListIf c v = v ≡ verdict.Whole → IsWholeList c

-- the sets are a front of the problem's list, and the values of each explain the traces
pub record IsFrontList (c : Claim) : Type 0 where
  pub front : IsFrontOf c.problem (members_of c.sets)
  pub explained : All (IsExplained c) c.sets

-- where the answer is that the list is a front, its sets are one of the problem's list
abbrev pub IsFrontListIf : Claim → Verdict → Type 0
IsFrontListIf c v = v ≡ verdict.Front → IsFrontList c

-- a list with its form's number of variables
pub record Judged : Type 0 where
  pub claim : Claim
  pub vars : ℕ

-- a list with an answer
pub record Answered : Type 0 where
  pub claim : Claim
  pub verdict : Verdict
