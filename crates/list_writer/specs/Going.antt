-- Private, for the functions inside this crate: what is known while sets are listed.
use Rattle.std.specs.Prelude.{ℕ, ◌≡◌, ◌+◌, ◌<◌, ◌≤◌, ◌⊎◌, Bool, true, false, List, [], ◌∷◌, ◌++◌, All, length, map, take, drop, count_by}
use Rattle.std.specs.Prelude.{Option, Some, None, Result, Ok, Err}
use Rattle.std.specs.List.{flat_map}
use Rattle.design_core.specs.declared.values.SetWithValues.{SetWithValues}
use Rattle.io_ports.specs.Faults.{FaultCounts, Rose, WriteRose}
use Rattle.clause_base.specs.declared.literal.Lit.{Lit}
use Rattle.clause_base.specs.declared.log.Step.{Step}
use Rattle.log_portions.specs.Portions.{steps_text}
use Rattle.sat_core.specs.Outcome.{is_learned}
use Rattle.sat_core.specs.SolverState.{blocks_of}
use Rattle.write_order.specs.Writes.{AreBegun, AreDone, Outputs, StopsIn, Write, begin_text, print_piece, put_piece}
use Rattle.write_order.specs.declared.write.WriteErr.{WriteErr}
use Rattle.write_order.specs.declared.write.WriteErr.TheVariants as write
use Rattle.report_doc.specs.Lines.{IsMemberOf}
use Rattle.report_doc.specs.declared.types.Ending.{Ending}
use Rattle.report_doc.specs.declared.types.Ending.TheVariants.{Complete, Budget, Sets, Earlier}
use Rattle.command_contract.specs.Contract.{Counts, NoneRose, WriteFailed}
use Rattle.debug_core.specs.declared.found.Found.{Found}
use Rattle.debug_core.specs.declared.found.Found.TheVariants as answer
use Rattle.suspect_map.specs.declared.group.Group.{Group}
use Rattle.card_counter.specs.Shows.{Shows, last_of}
use Rattle.debug_core.specs.Problems.{IsFormFor, suspect_count}
use Rattle.debug_core.specs.Debugging.{DebugState, FindsEnd, FindsNothing, FindsSet, HasCountedLog, IsDebugger, Searches}
use Rattle.list_writer.specs.declared.stop.Stop.{Stop}
use Rattle.list_writer.specs.declared.stop.Stop.TheVariants.{Failed, Memory}
use Rattle.list_writer.specs.declared.outcome.Outcome.{Outcome}
use Rattle.list_writer.specs.declared.outcome.Outcome.TheVariants as outcome
use Rattle.list_writer.specs.Asked.{Asked}
use Rattle.list_writer.specs.Found.{AreFound, EndsAs, IsShown, Portion, found_of, log_of, own_steps, sets_of}
use Rattle.list_writer.specs.Lines.{ending_line, ending_status, memory_line}
use Rattle.list_writer.specs.Texts.{lines_of, report_of, waves}
use Rattle.set_waves.specs.Waved.{Runs}
use Rattle.list_writer.specs.Due.{IsBody, IsListedTo, IsStopped, prints, set_writes, sets_in}

-- ---- the outputs
abbrev pub outputs : (List ℕ → Option (List ℕ)) → (List ℕ → Option (List ℕ)) → List ℕ → List ℕ → Outputs
outputs written now_written printed now_printed =
    record { written = written; now_written = now_written; printed = printed; now_printed = now_printed }

-- the cause of an answer: a count of faults of writes rose where one failed, and no other answer lets a count rise
abbrev pub WriteCauses : {X : Type 0} → Counts → Result X WriteErr → Type 0
WriteCauses counts (Ok _) = NoneRose counts
WriteCauses counts (Err write.Failed) = WriteFailed counts
WriteCauses counts (Err write.NoMemory) = NoneRose counts

abbrev pub StopCauses : {X : Type 0} → Counts → Result X Stop → Type 0
StopCauses counts (Ok _) = NoneRose counts
StopCauses counts (Err Failed) = WriteFailed counts
StopCauses counts (Err (Memory sets)) = NoneRose counts

-- the writes of some sets
abbrev pub sets_writes : Asked → List Portion → List Write
sets_writes asked portions = flat_map (set_writes asked) portions

-- those of the report
abbrev pub report_writes : Asked → List SetWithValues → Ending → List Write
report_writes asked found ending = begin_text asked.report ∷ put_piece asked.report (report_of asked found ending) ∷ []

-- those behind the search
abbrev pub closing_writes : Asked → List SetWithValues → List Step → Ending → Runs → List Write
closing_writes asked found rest ending runs =
    put_piece asked.log (steps_text rest) ∷ begin_text asked.report ∷ put_piece asked.report (report_of asked found ending)
    ∷ (waves asked found runs ++ print_piece (ending_line ending (length found)) ∷ [])

abbrev pub SinkCause : {X : Type 0} → ℕ → ℕ → Result X Stop → Type 0
SinkCause old new (Ok _) = new ≡ old
SinkCause old new (Err Failed) = Rose old new
SinkCause old new (Err (Memory sets)) = new ≡ old

abbrev pub ShelfCauses : {X : Type 0} → FaultCounts → FaultCounts → Result X Stop → Type 0
ShelfCauses old new (Ok _) = new ≡ old
ShelfCauses old new (Err Failed) = WriteRose old new
ShelfCauses old new (Err (Memory sets)) = new ≡ old

-- ---- before the search
-- the members of sets are numbers of suspects
abbrev pub AreMembers : List Group → List SetWithValues → Type 0
AreMembers groups found = All (λ (set : SetWithValues). All (IsMemberOf groups) set.members) found

-- the lines of sets are printed; where memory was wanted, those of the first of them, and of so many
abbrev pub lines_writes : Asked → List SetWithValues → List Write
lines_writes asked found = map (λ (set : SetWithValues). print_piece (lines_of asked set)) found

abbrev pub LinesLeave : {X : Type 0} → List Write → Outputs → Result X Stop → Type 0
LinesLeave writes o (Ok _) = AreDone writes o
LinesLeave writes o (Err Failed) = StopsIn writes o
LinesLeave writes o (Err (Memory sets)) = (count : ℕ) × (count ≤ length writes) × (sets ≡ Some count) × AreDone (take count writes) o

-- writes that were cut short, behind so many sets that are printed
pub record AreShort (writes : List Write) (sets : Option ℕ) (o : Outputs) : Type 0 where
  pub count : ℕ
  pub within : count ≤ length writes
  pub sets_are : sets ≡ sets_in (take count writes)
  pub done : AreDone (take count writes) o

-- the writes before the search were carried out, or some of them
abbrev pub OpenLeaves : {X : Type 0} → List Write → Outputs → Result X Stop → Type 0
OpenLeaves writes o (Ok _) = AreDone writes o
OpenLeaves writes o (Err Failed) = StopsIn writes o
OpenLeaves writes o (Err (Memory sets)) = AreShort writes sets o

-- ---- between two sets
-- the log is written up to a place, with no block behind it, and so are the lines of all sets that were found
pub record IsGoing (asked : Asked) (s : DebugState) (found : List SetWithValues) (steps left : ℕ) (portions : List Portion) : Type 0 where
  pub holds : IsDebugger s
  pub problem : s.problem ≡ asked.problem
  pub found_are : found ≡ found_of asked portions
  pub listed : s.listed ≡ sets_of asked portions
  pub within : steps ≤ length s.log
  pub written : take steps s.log ≡ log_of asked portions
  pub no_block : blocks_of (drop steps s.log) ≡ []
  pub shown : All (IsShown asked.problem) found
  pub so_far : AreFound asked s.form portions
  pub units : count_by is_learned (own_steps asked s.log) + left ≡ asked.budget
  pub goes_on : s.ended ≡ false
  pub unfinished : s.finished ≡ false
  pub imported : s.imported ≡ length asked.session.log

-- sets that were found, and their writes
pub record SearchGoes (asked : Asked) (s : DebugState) (found : List SetWithValues) (steps left : ℕ) (o : Outputs)
    (told : Bool) : Type 0 where
  pub portions : List Portion
  pub going : IsGoing asked s found steps left portions
  pub done : told ≡ true → AreDone (sets_writes asked portions) o

-- ---- a turn of the search
-- what was known before and after it, the sets that are kept, how many steps are written, the units that are left, and the outputs
pub record Turn : Type 0 where
  pub asked : Asked
  pub old : DebugState
  pub new : DebugState
  pub found : List SetWithValues
  pub now_found : List SetWithValues
  pub steps : ℕ
  pub now_steps : ℕ
  pub left : ℕ
  pub now_left : ℕ
  pub o : Outputs
  pub told : Bool

-- what an answer to a slice of the budget says, where so many units were left before it and so many are behind it
abbrev pub GivesInSlice : DebugState → DebugState → ℕ → ℕ → Found → Type 0
GivesInSlice old new left now_left (answer.Set set) = FindsSet old new set
GivesInSlice old new left now_left answer.End = FindsEnd old new
GivesInSlice old new left now_left answer.Spent = FindsNothing old new × (0 < now_left → now_left < left)

-- what is kept between two turns: the sets, how many steps are written, and the units that are left
pub record Kept : Type 0 where
  pub found : List SetWithValues
  pub steps : ℕ
  pub left : ℕ

abbrev pub turn_of : Asked → DebugState → DebugState → Kept → Kept → Outputs → Bool → Turn
turn_of asked old new was is o told = record {
  asked = asked;
  old = old;
  new = new;
  found = was.found;
  now_found = is.found;
  steps = was.steps;
  now_steps = is.steps;
  left = was.left;
  now_left = is.left;
  o = o;
  told = told;
}

-- a set with the steps that aren't written yet
abbrev pub portion_of : Turn → SetWithValues → Portion
portion_of t set = record { steps = drop t.steps t.new.log; set = set }

-- a set was found, and is written and kept
pub record TakesSet (t : Turn) : Type 0 where
  pub set : SetWithValues
  pub finds : FindsSet t.old t.new set
  pub kept : t.now_found ≡ t.found ++ set ∷ []
  pub steps_are : t.now_steps ≡ length t.new.log
  pub done : t.told ≡ true → AreDone (set_writes t.asked (portion_of t set)) t.o

-- nothing is written
pub record Rests (t : Turn) : Type 0 where
  pub kept : t.now_found ≡ t.found
  pub steps_are : t.now_steps ≡ t.steps
  pub done : t.told ≡ true → AreDone [] t.o

-- a slice of the budget is spent, and units are left beside it: nothing was found, and what the log grew by isn't written yet
pub record WaitsTurn (t : Turn) : Type 0 where
  pub finds : FindsNothing t.old t.new
  pub fewer : t.now_left < t.left
  pub rests : Rests t

pub data GoesOn (t : Turn) : Type 0 where
  takes : TakesSet t → GoesOn t
  waits : WaitsTurn t → GoesOn t

abbrev pub EndsTurn : Turn → Ending → Type 0
EndsTurn t Complete = FindsEnd t.old t.new × Rests t
EndsTurn t Budget = (t.now_left ≡ 0) × FindsNothing t.old t.new × Rests t
EndsTurn t Sets = ⊥
EndsTurn t Earlier = ⊥

-- a set was found, and a write of it failed
pub record FailsTurn (t : Turn) : Type 0 where
  pub set : SetWithValues
  pub finds : FindsSet t.old t.new set
  pub stops : t.told ≡ true → StopsIn (set_writes t.asked (portion_of t set)) t.o

-- memory was wanted by the search, which found nothing then, or for the writes of a set
pub data CutsTurn (t : Turn) : Type 0 where
  searching : FindsNothing t.old t.new → (t.told ≡ true → AreDone [] t.o) → CutsTurn t
  writing : (set : SetWithValues) → FindsSet t.old t.new set → (t.told ≡ true → AreBegun (set_writes t.asked (portion_of t set)) t.o)
      → CutsTurn t

abbrev pub Turns : Turn → Result (Option Ending) Stop → Type 0
Turns t (Ok None) = GoesOn t
Turns t (Ok (Some ending)) = EndsTurn t ending
Turns t (Err Failed) = FailsTurn t
Turns t (Err (Memory sets)) = (sets ≡ Some (length t.found)) × CutsTurn t

pub record IsTurn (t : Turn) (result : Result (Option Ending) Stop) : Type 0 where
  pub holds : IsDebugger t.new
  pub searches : Searches t.old t.new t.left t.now_left
  pub answer : Turns t result

-- ---- behind the search
-- what it added since the last set is the rest of the log, which isn't written yet
pub record HasEnded (asked : Asked) (s : DebugState) (found : List SetWithValues) (steps : ℕ) (ending : Ending)
    (portions : List Portion) : Type 0 where
  pub holds : IsDebugger s
  pub problem : s.problem ≡ asked.problem
  pub found_are : found ≡ found_of asked portions
  pub listed : s.listed ≡ sets_of asked portions
  pub shown : All (IsShown asked.problem) found
  pub so_far : AreFound asked s.form portions
  pub within : steps ≤ length s.log
  pub joined : log_of asked portions ++ drop steps s.log ≡ s.log
  pub no_block : blocks_of (drop steps s.log) ≡ []
  -- few steps of it behind the session's are derived ones
  pub counted : HasCountedLog s
  pub few : length s.log
      ≤ length asked.session.log + count_by is_learned (own_steps asked s.log) + 9 + length s.listed + suspect_count s.problem
  pub within_budget : count_by is_learned (own_steps asked s.log) ≤ asked.budget
  pub ends : EndsAs asked portions s.log ending
  pub imported : s.imported ≡ length asked.session.log

-- the log of a list that isn't whole shows that no set is missing before the last one
abbrev pub ShowsFront : DebugState → Ending → Type 0
ShowsFront s ending = ending_status ending ≡ 1 → Shows (suspect_count s.problem) s.problem.k (last_of s.listed) s.log

-- what a search of sets knows at its end, and what it wrote
pub record Searched : Type 0 where
  pub asked : Asked
  pub s : DebugState
  pub found : List SetWithValues
  pub steps : ℕ
  pub o : Outputs
  pub told : Bool

pub record SearchEnds (e : Searched) (ending : Ending) : Type 0 where
  pub portions : List Portion
  pub ended : HasEnded e.asked e.s e.found e.steps ending portions
  pub done : e.told ≡ true → AreDone (sets_writes e.asked portions) e.o

pub record SearchFails (e : Searched) : Type 0 where
  pub portions : List Portion
  pub found : AreFound e.asked e.s.form portions
  pub stops : e.told ≡ true → StopsIn (sets_writes e.asked portions) e.o

-- where a checkpoint failed, all that was due by then is written
pub record SaveFails (e : Searched) : Type 0 where
  pub portions : List Portion
  pub found : AreFound e.asked e.s.form portions
  pub done : e.told ≡ true → AreDone (sets_writes e.asked portions) e.o

-- some of these writes were carried out, from the first one on, and so many sets are printed by them and by the writes of a session
pub record AreCut (before : ℕ) (writes : List Write) (sets : Option ℕ) (o : Outputs) : Type 0 where
  pub count : ℕ
  pub within : count ≤ length writes
  pub sets_are : sets ≡ Some (before + count_by prints (take count writes))
  pub done : AreDone (take count writes) o

pub record SearchCut (e : Searched) (sets : Option ℕ) : Type 0 where
  pub portions : List Portion
  pub found : AreFound e.asked e.s.form portions
  pub cut : e.told ≡ true → AreCut (length e.asked.session.sets) (sets_writes e.asked portions) sets e.o

abbrev pub searched_of : Asked → DebugState → List SetWithValues → ℕ → Outputs → Bool → Searched
searched_of asked s found steps o told = record { asked = asked; s = s; found = found; steps = steps; o = o; told = told }

abbrev pub SearchLeaves : Searched → Result Ending Stop → Type 0
SearchLeaves e (Ok ending) = SearchEnds e ending
SearchLeaves e (Err Failed) = SearchFails e ⊎ SaveFails e
SearchLeaves e (Err (Memory sets)) = SearchCut e sets

pub record IsSearched (e : Searched) (result : Result Ending Stop) : Type 0 where
  pub holds : IsDebugger e.s
  pub problem : e.s.problem ≡ e.asked.problem
  pub answer : SearchLeaves e result

-- ---- all of it
-- a listing that stopped for want of memory, behind so many sets that are printed
pub record StopsShort (asked : Asked) (sets : Option ℕ) (o : Outputs) : Type 0 where
  pub vars : ℕ
  pub form : List (List Lit)
  pub is_form : IsFormFor asked.problem vars form
  pub body : List Write
  pub is_body : IsBody asked form body
  pub count : ℕ
  pub within : count ≤ length body
  pub sets_are : sets ≡ sets_in (take count body)
  pub done : AreDone (take count body) o

abbrev pub RunLeaves : Asked → Outputs → Result Ending Stop → Type 0
RunLeaves asked o (Ok ending) = IsListedTo asked o ending
RunLeaves asked o (Err Failed) = IsStopped asked o
RunLeaves asked o (Err (Memory sets)) = StopsShort asked sets o

-- the line that says that memory was wanted is printed, or nothing; or the sink failed
abbrev pub TellsMemory : Option ℕ → Outputs → Outcome → Type 0
TellsMemory sets o (outcome.Ended ending) = ⊥
TellsMemory sets o outcome.Failed = StopsIn (print_piece (memory_line sets) ∷ []) o
TellsMemory sets o outcome.Memory = AreDone (print_piece (memory_line sets) ∷ []) o ⊎ AreDone [] o

abbrev pub MemoryCause : ℕ → ℕ → Outcome → Type 0
MemoryCause old new (outcome.Ended ending) = ⊥
MemoryCause old new outcome.Failed = Rose old new
MemoryCause old new outcome.Memory = new ≡ old
