-- The five conditions on a list: the sets are in order, none holds another, each makes the traces right, the log is accepted, and
-- it closes the list. For each, what it is to hold, and which set or step is named where it doesn't: the first. And in the place of the last
-- one: that the log shows the list to be a front.
use Rattle.std.specs.Prelude.{ℕ, ◌≢◌, ◌-◌, ◌<◌, ◌≤◌, IsTrue, List, Option, length, map}
use Rattle.design_core.specs.declared.values.Values.{Values}
use Rattle.loc_base.specs.Sets.{is_before}
use Rattle.design_core.specs.Works.{IsSet, IsWithin}
use Rattle.clause_base.specs.declared.literal.Lit.{Lit}
use Rattle.clause_base.specs.Acceptance.{IsAccepted, IsLeastRefused}
use Rattle.clause_base.specs.Progress.{IsClosing}
use Rattle.card_counter.specs.Shows.{Shows, last_of}
use Rattle.front_cert.specs.Unshown.{SaysMissing}
use Rattle.cycle_sim.specs.declared.miss.Miss.{Miss}
use Rattle.cycle_sim.specs.Misses.{IsLeastMiss, MeetAll}
use Rattle.set_enum.specs.Bounds.{bound_of}
use Rattle.set_enum.specs.Sets.{block_of}
use Rattle.report_doc.specs.declared.types.ReportSet.{ReportSet}
use Rattle.report_sets.specs.Written.{HasValues}
use Rattle.debug_core.specs.Problems.{suspect_count, suspects_of}
use Rattle.list_verdict.specs.Claims.{AreItsValues, Claim, IsSetAt}

-- ---- order
-- a set comes after the one that stands before it, if there is one: by size, then by members
abbrev pub ComesAfter : List ReportSet → ℕ → ReportSet → Type 0
ComesAfter sets number set = (last : ReportSet) → IsSetAt sets (number - 1) last → IsTrue (is_before last.members set.members)

-- the set of a number is in order: its members are numbers of suspects, ascending, and at most k; it comes after the one before it; and
-- its texts are those of values of its places
pub record IsInOrder (c : Claim) (number : ℕ) (set : ReportSet) : Type 0 where
  pub suspects : IsSet (suspects_of c.problem) set.members
  pub size : length set.members ≤ c.problem.k
  pub after : ComesAfter c.sets number set
  pub values : HasValues c.problem.design c.problem.traces (suspects_of c.problem) set

-- each set below a number is in order
abbrev pub AreInOrderBelow : Claim → ℕ → Type 0
AreInOrderBelow c number = (other : ℕ) (set : ReportSet) → other < number → IsSetAt c.sets other set → IsInOrder c other set

abbrev pub AreInOrder : Claim → Type 0
AreInOrder c = (number : ℕ) (set : ReportSet) → IsSetAt c.sets number set → IsInOrder c number set

-- the first set that isn't in order
pub record IsFirstOutOfOrder (c : Claim) (number : ℕ) : Type 0 where
  pub set : ReportSet
  pub is_set : IsSetAt c.sets number set
  pub fails : ¬ IsInOrder c number set
  pub first : AreInOrderBelow c number

-- ---- no set holds another
-- each member of the set of the other number is one of the first's
pub record Holds (sets : List ReportSet) (number other : ℕ) : Type 0 where
  pub set : ReportSet
  pub is_set : IsSetAt sets number set
  pub inner : ReportSet
  pub is_inner : IsSetAt sets other inner
  pub apart : other ≢ number
  pub within : IsWithin inner.members set.members

abbrev pub NoneHolds : List ReportSet → Type 0
NoneHolds sets = (number other : ℕ) → ¬ Holds sets number other

-- the first set that holds another, and the first that it holds
pub record IsFirstToHold (sets : List ReportSet) (number other : ℕ) : Type 0 where
  pub holds : Holds sets number other
  pub first : (n o : ℕ) → n < number → ¬ Holds sets n o
  pub first_held : (o : ℕ) → o < other → ¬ Holds sets number o

-- ---- each set makes the traces right
-- with the values that its texts say each trace is right
abbrev pub IsRightSet : Claim → ReportSet → Type 0
IsRightSet c set = (values : Values) → AreItsValues c set values → MeetAll c.problem.design c.problem.traces values

abbrev pub AreRight : Claim → Type 0
AreRight c = (number : ℕ) (set : ReportSet) → IsSetAt c.sets number set → IsRightSet c set

-- the first set with whose values a trace isn't right, and the least output, by trace and cycle, that isn't as expected
pub record IsFirstToMiss (c : Claim) (number : ℕ) (miss : Miss) : Type 0 where
  pub set : ReportSet
  pub is_set : IsSetAt c.sets number set
  pub values : Values
  pub are_its : AreItsValues c set values
  pub misses : IsLeastMiss c.problem.design c.problem.traces values miss
  pub first : (other : ℕ) (before : ReportSet) → other < number → IsSetAt c.sets other before → IsRightSet c before

-- ---- the log
-- the clauses that the sets are left out, in the order of the sets
abbrev pub blocks_for : List ReportSet → List (List Lit)
blocks_for sets = map (λ set. block_of set.members) sets

-- the log is accepted after the form, with the blocks of all sets in their order
abbrev pub IsAcceptedLog : Claim → Type 0
IsAcceptedLog c = IsAccepted c.form (blocks_for c.sets) c.log

-- the first step that isn't accepted; where each is and a set has no block, the number behind the last
abbrev pub IsFirstRefusedStep : Claim → ℕ → Type 0
IsFirstRefusedStep c number = IsLeastRefused c.form (blocks_for c.sets) c.log number

-- the log's last step is derived, and its clause is empty or says alone that more than k suspects are chosen
abbrev pub Closes : Claim → Type 0
Closes c = IsClosing (bound_of (suspect_count c.problem) c.problem.k c.problem.k) c.log

-- the log shows that no set is missing before the list's last one; where there is no set, there is nothing to show
abbrev pub ShowsLast : Claim → Type 0
ShowsLast c = Shows (suspect_count c.problem) c.problem.k (last_of (map (λ set. set.members) c.sets)) c.log

-- nothing is missing where the log shows that, else what it doesn't show first: 0 where not that no set has fewer members than the last one,
-- else the least suspect that isn't shown absent
abbrev pub SaysMissingOf : Claim → Option ℕ → Type 0
SaysMissingOf c missing = SaysMissing (suspect_count c.problem) c.problem.k (last_of (map (λ set. set.members) c.sets)) c.log missing
