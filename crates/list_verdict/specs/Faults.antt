-- The first four conditions, one after another: the first of them that fails, or that all hold, and the values of each set.
use Rattle.std.specs.Prelude.{ℕ, ◌≡◌, ◌+◌, List, length, Err, Ok, Result, Some, Vec, slice_get}
use Rattle.std.specs.declared.alloc.Global.{Global}
use Rattle.design_core.specs.declared.values.SetWithValues.{SetWithValues}
use Rattle.clause_base.specs.Acceptance.{Follows}
use Rattle.report_doc.specs.declared.types.ReportSet.{ReportSet}
use Rattle.list_verdict.specs.declared.fault.ListFault.{ListFault}
use Rattle.list_verdict.specs.declared.fault.ListFault.TheVariants as fault
use Rattle.list_verdict.specs.declared.verdict.Verdict.{Verdict}
use Rattle.list_verdict.specs.declared.verdict.Verdict.TheVariants as verdict
use Rattle.list_verdict.specs.Claims.{AreItsValues, Claim}
use Rattle.list_verdict.specs.Conditions.{AreInOrder, AreRight, IsAcceptedLog, IsFirstOutOfOrder, IsFirstRefusedStep, IsFirstToHold, IsFirstToMiss, IsInOrder, NoneHolds, blocks_for}

-- ---- the values of the sets
-- the set of a place, from 0, is in order, and these are its members, with the values that its texts say
pub record IsFound (c : Claim) (place : ℕ) (set : ReportSet) (found : SetWithValues) : Type 0 where
  pub in_order : IsInOrder c (place + 1) set
  pub members : found.members ≡ set.members
  pub values : AreItsValues c set found.values

-- so many sets, from the first on, with their values
pub record AreFound (c : Claim) (count : ℕ) (found : List SetWithValues) : Type 0 where
  pub long : length found ≡ count
  pub each : (place : ℕ) (set : ReportSet) (f : SetWithValues) → slice_get c.sets place ≡ Some set → slice_get found place ≡ Some f
      → IsFound c place set f

-- ---- the first of the four that fails
-- it is named, with the first set or step by which it does
abbrev pub IsFault : Claim → ListFault → Type 0
IsFault c (fault.Order set) = IsFirstOutOfOrder c set
IsFault c (fault.Contains set other) = AreInOrder c × IsFirstToHold c.sets set other
IsFault c (fault.Replay set miss) = AreInOrder c × NoneHolds c.sets × IsFirstToMiss c set miss
IsFault c (fault.Step number) = AreInOrder c × NoneHolds c.sets × AreRight c × IsFirstRefusedStep c number

-- what is judged of the list then
abbrev pub verdict_of : ListFault → Verdict
verdict_of (fault.Order set) = verdict.Order set
verdict_of (fault.Contains set other) = verdict.Contains set other
verdict_of (fault.Replay set miss) = verdict.Replay set miss
verdict_of (fault.Step number) = verdict.Step number

-- all four hold, so that the log follows from the form and the blocks of the sets
pub record IsFaultless (c : Claim) : Type 0 where
  pub in_order : AreInOrder c
  pub none_holds : NoneHolds c.sets
  pub right : AreRight c
  pub accepted : IsAcceptedLog c
  pub follows : Follows c.form (blocks_for c.sets) c.log

-- what is answered: the sets with their values where all four hold, else the first that fails
abbrev pub Examines : Claim → Result (Vec SetWithValues Global) ListFault → Type 0
Examines c (Ok found) = IsFaultless c × AreFound c (length c.sets) found.items
Examines c (Err fault) = IsFault c fault
