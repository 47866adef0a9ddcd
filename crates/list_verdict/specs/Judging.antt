-- Private, for the functions inside this crate: what is known of a list between two conditions.
use Rattle.std.specs.Prelude.{ℕ, ◌≡◌, ◌+◌, ◌<◌, ◌≤◌, ◌==◌, Bool, false, true, ◌&&◌, nat_lt, if◌then◌else◌, List, [], ◌∷◌, length, slice_get, All, Option, Some, None}
use Rattle.std.specs.List.Sorted.{IsStrictlyIncreasing}
use Rattle.design_core.specs.declared.values.SetWithValues.{SetWithValues}
use Rattle.loc_base.specs.Sets.{is_before}
use Rattle.design_core.specs.Works.{IsSet, IsWithin}
use Rattle.report_doc.specs.declared.types.ReportSet.{ReportSet}
use Rattle.report_sets.specs.Written.{HasValues}
use Rattle.debug_core.specs.Problems.{Problem, suspects_of}
use Rattle.list_verdict.specs.declared.holding.Holding.{Holding}
use Rattle.list_verdict.specs.declared.order.Order.{Order}
use Rattle.list_verdict.specs.declared.order.Order.TheVariants as order
use Rattle.list_verdict.specs.Claims.{AreItsValues, Claim}
use Rattle.clause_base.specs.Acceptance.{Follows}
use Rattle.clause_base.specs.declared.form.Form.{Form}
use Rattle.clause_base.specs.declared.log.Step.{Step}
use Rattle.clause_base.specs.Literal.{AreWithin}
use Rattle.clause_form.specs.Named.{Planned}
use Rattle.proof_check.specs.Named.{AgreeFor}
use Rattle.cycle_sim.specs.declared.miss.Miss.{Miss}
use Rattle.proof_check.specs.declared.claim.BadStep.{BadStep}
use Rattle.list_verdict.specs.declared.verdict.Verdict.{Verdict}
use Rattle.list_verdict.specs.Conditions.{AreInOrder, AreRight, Holds, IsAcceptedLog, IsFirstOutOfOrder, IsFirstRefusedStep, IsFirstToHold, IsFirstToMiss, IsInOrder, NoneHolds, blocks_for}
use Rattle.list_verdict.specs.declared.fault.ListFault.{ListFault}
use Rattle.list_verdict.specs.Faults.{AreFound, IsFault, IsFaultless, IsFound}
use Rattle.list_verdict.specs.Verdicts.{IsFrontListIf, IsVerdict, IsWholeListIf}

-- ---- order
-- members that may be a set's: numbers of suspects, ascending, at most k
pub record AreMembers (p : Problem) (members : List ℕ) : Type 0 where
  pub suspects : IsSet (suspects_of p) members
  pub size : length members ≤ p.k

-- what is found of the set of a place: its values where it is in order, else nothing
abbrev pub FoundAt : Claim → ℕ → Option SetWithValues → Type 0
FoundAt c place None = (set : ReportSet) → slice_get c.sets place ≡ Some set → ¬ IsInOrder c (place + 1) set
FoundAt c place (Some found) = (set : ReportSet) → slice_get c.sets place ≡ Some set → IsFound c place set found

-- what is found of a set: its members with values that its texts say, or that these say none
abbrev pub SaysValues : Claim → ReportSet → Option SetWithValues → Type 0
SaysValues c set None = ¬ HasValues c.problem.design c.problem.traces (suspects_of c.problem) set
SaysValues c set (Some found) = (found.members ≡ set.members) × AreItsValues c set found.values

-- the sets are in order, with these values, or a set is the first that isn't
abbrev pub Orders : Claim → Order → Type 0
Orders c (order.In found) = AreInOrder c × AreFound c (length c.sets) found.items
Orders c (order.OutOf set) = IsFirstOutOfOrder c set

-- ---- sets that hold others
-- the sets are ascending lists of numbers, each of which comes before all behind it
pub record AreAscending (sets : List ReportSet) : Type 0 where
  pub each : All (λ set. IsStrictlyIncreasing set.members) sets
  pub before : (i j : ℕ) (one other : ReportSet) → i < j → slice_get sets i ≡ Some one → slice_get sets j ≡ Some other
      → is_before one.members other.members ≡ true

-- the place of the first set that the set of a place holds, where there is one
abbrev pub FirstHeld : List ReportSet → ℕ → Option ℕ → Type 0
FirstHeld sets place None = (o : ℕ) → ¬ Holds sets (place + 1) o
FirstHeld sets place (Some other) = Holds sets (place + 1) (other + 1) × ((o : ℕ) → o < other + 1 → ¬ Holds sets (place + 1) o)

-- none of the sets up to a place is within a list
abbrev pub NoneWithin : List ReportSet → List ℕ → ℕ → Type 0
NoneWithin sets outer place = (i : ℕ) (inner : ReportSet) → i < place → slice_get sets i ≡ Some inner → ¬ IsWithin inner.members outer

-- of two ascending lists, the other not before the one: whether they are the same up to the one's first number that isn't in a third
-- ascending list, the outer, and no number of the outer stands between that and the other's at its place
abbrev pub shares_gap : (outer one other : List ℕ) → Bool
shares_gap outer [] ys = false
shares_gap [] (x ∷ xs) ys = true
shares_gap (bound ∷ bounds) (x ∷ xs) [] = false
shares_gap (bound ∷ bounds) (x ∷ xs) (y ∷ ys) =
    if nat_lt bound x then shares_gap bounds (x ∷ xs) (y ∷ ys)
    else if nat_lt x bound then nat_lt y bound
    else (x == y) && shares_gap bounds xs ys

-- the first set that holds another, where there is one
abbrev pub FirstToHold : List ReportSet → Option Holding → Type 0
FirstToHold sets None = NoneHolds sets
FirstToHold sets (Some holding) = IsFirstToHold sets holding.set holding.other

-- ---- what the replay and the log say
-- each set makes the traces right, or the set of a place is the first that misses
abbrev pub ValuesSay : Claim → Option (ℕ × Miss) → Type 0
ValuesSay c None = AreRight c
ValuesSay c (Some (place, miss)) = (place < length c.sets) × IsFirstToMiss c (place + 1) miss

-- the log is accepted, and follows from the form and the blocks, or a step is the first that is refused
abbrev pub LogSays : Claim → Option BadStep → Type 0
LogSays c None = IsAcceptedLog c × Follows c.form (blocks_for c.sets) c.log
LogSays c (Some bad) = IsFirstRefusedStep c bad.n

-- the first condition that fails, or that none of the first four does
abbrev pub SaysFault : Claim → Option ListFault → Type 0
SaysFault c None = IsFaultless c
SaysFault c (Some fault) = IsFault c fault

-- a form of a plan's variables, that agrees with the plan's clauses where the log names them, and has empty ones else
pub record IsNamedForm (plan : Planned) (log : List Step) (made : Form) : Type 0 where
  pub variables : made.vars ≡ plan.vars
  pub agree : AgreeFor log made.clauses plan.clauses
  pub within : AreWithin plan.vars plan.clauses → AreWithin made.vars made.clauses

-- an answer, and what it says where it is that the list is whole, or a front
pub record Judges (c : Claim) (verdict : Verdict) : Type 0 where
  pub verdict_is : IsVerdict c verdict
  pub list : IsWholeListIf c verdict
  pub front : IsFrontListIf c verdict
