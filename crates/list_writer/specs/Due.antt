-- What a listing writes, in order: the head of the log, with the steps of the session in one piece, and the lines of the session's sets;
-- for each set that is found its portion of the log and its lines; the rest of the log; the report; the waves; the last line. And what
-- stands where that is cut short.
use Rattle.std.specs.Prelude.{ℕ, ◌≡◌, ◌≤◌, ◌<◌, ◌^◌, ◌⊎◌, Bool, true, false, List, [], ◌∷◌, ◌++◌, length, map, take, count_by, Option, Some, None}
use Rattle.std.specs.List.{flat_map}
use Rattle.design_core.specs.declared.values.SetWithValues.{SetWithValues}
use Rattle.clause_base.specs.declared.literal.Lit.{Lit}
use Rattle.clause_base.specs.declared.log.Step.{Step}
use Rattle.log_portions.specs.Portions.{head_text, steps_text}
use Rattle.write_order.specs.Writes.{AreDone, Outputs, StopsIn, Write, begin_text, print_piece, put_piece}
use Rattle.report_doc.specs.declared.types.Ending.{Ending}
use Rattle.report_doc.specs.declared.types.Ending.TheVariants.{Budget}
use Rattle.report_doc.specs.Shape.{IsReport}
use Rattle.debug_core.specs.Problems.{IsFormFor}
use Rattle.list_writer.specs.Asked.{Asked}
use Rattle.list_writer.specs.Found.{AreFound, IsEnded, Portion, found_of}
use Rattle.list_writer.specs.Lines.{ending_line, ending_status, memory_line}
use Rattle.list_writer.specs.Texts.{lines_of, report_for, report_of, waved_for, waves}
use Rattle.set_waves.specs.Waved.{AreRuns, Runs}

-- ---- the writes
-- those of a set
abbrev pub set_writes : Asked → Portion → List Write
set_writes asked portion = put_piece asked.log (steps_text portion.steps) ∷ print_piece (lines_of asked portion.set) ∷ []

-- those before the search
abbrev pub first_writes : Asked → List Write
first_writes asked =
    begin_text asked.log ∷ put_piece asked.log (head_text asked.inputs ++ steps_text asked.session.log)
    ∷ map (λ (set : SetWithValues). print_piece (lines_of asked set)) asked.session.sets

-- up to the last set that was found
abbrev pub opening : Asked → List Portion → List Write
opening asked portions = first_writes asked ++ flat_map (set_writes asked) portions

-- the texts behind the search
abbrev pub texts : Asked → List Portion → List Step → Ending → Runs → List Write
texts asked portions rest ending runs =
    put_piece asked.log (steps_text rest) ∷ begin_text asked.report
    ∷ put_piece asked.report (report_of asked (found_of asked portions) ending) ∷ waves asked (found_of asked portions) runs

-- ---- what is written before the last line
-- the writes of a listing that goes on, or of one that ended, but its last line
pub data IsBody (asked : Asked) (form : List (List Lit)) : List Write → Type 0 where
  going_on : (portions : List Portion) → AreFound asked form portions → IsBody asked form (opening asked portions)
  ended : (portions : List Portion) (rest : List Step) (ending : Ending) (runs : Runs) → IsEnded asked form portions rest ending
      → AreRuns (waved_for asked) (found_of asked portions) runs
      → IsBody asked form (opening asked portions ++ texts asked portions rest ending runs)

-- whether a write prints: before the last line one write prints for each set that is listed
abbrev pub prints : Write → Bool
prints (begin_text name) = false
prints (put_piece name piece) = false
prints (print_piece piece) = true

-- the number of sets that are printed by some writes, where the log is begun by them
abbrev pub sets_in : List Write → Option ℕ
sets_in [] = None
sets_in (write ∷ writes) = Some (count_by prints (write ∷ writes))

-- the writes of a listing for which memory was wanted behind so many of them
abbrev pub short : ℕ → List Write → List Write
short count body = take count body ++ print_piece (memory_line (sets_in (take count body))) ∷ []

-- ---- what is due
-- all that a listing writes: it goes on; it ends, with its last line; or memory is wanted behind some of its writes
pub data IsDue (asked : Asked) (form : List (List Lit)) : List Write → Type 0 where
  so_far : (portions : List Portion) → AreFound asked form portions → IsDue asked form (opening asked portions)
  whole : (portions : List Portion) (rest : List Step) (ending : Ending) (runs : Runs) → IsEnded asked form portions rest ending
      → AreRuns (waved_for asked) (found_of asked portions) runs
      → IsDue asked form (opening asked portions ++ texts asked portions rest ending runs
      ++ print_piece (ending_line ending (length (found_of asked portions))) ∷ [])
  wanting : (body : List Write) (count : ℕ) → IsBody asked form body → count ≤ length body → IsDue asked form (short count body)

-- ---- how a listing ends
-- 0, 1: all that is due was written, and the status is that of the ending
pub record IsListed (asked : Asked) (o : Outputs) (status : ℕ) : Type 0 where
  pub vars : ℕ
  pub form : List (List Lit)
  pub is_form : IsFormFor asked.problem vars form
  pub portions : List Portion
  pub rest : List Step
  pub ending : Ending
  pub is_ended : IsEnded asked form portions rest ending
  pub has_status : status ≡ ending_status ending
  -- a budget of 3 ^ V, for the V variables of the form, is never spent
  pub is_spent : ending ≡ Budget → asked.budget < 3 ^ vars
  -- what is reported is a report
  pub is_report : IsReport (report_for asked (found_of asked portions) ending)
  -- the runs that the waves show: of each trace, with the values of each set
  pub runs : Runs
  pub are_runs : AreRuns (waved_for asked) (found_of asked portions) runs
  pub done : AreDone (opening asked portions ++ texts asked portions rest ending runs
      ++ print_piece (ending_line ending (length (found_of asked portions))) ∷ []) o

-- and its ending, which its report and its last line say, is this one
pub record IsListedTo (asked : Asked) (o : Outputs) (ending : Ending) : Type 0 where
  pub listed : IsListed asked o (ending_status ending)
  pub is : listed.ending ≡ ending

-- 6: one of the writes that were due failed, and nothing was written behind it
pub record IsStopped (asked : Asked) (o : Outputs) : Type 0 where
  pub vars : ℕ
  pub form : List (List Lit)
  pub is_form : IsFormFor asked.problem vars form
  pub due : List Write
  pub is_due : IsDue asked form due
  pub stops : StopsIn due o

-- 7: memory was wanted behind some of the writes, and the line that says so is printed, or for want of memory it isn't
pub record IsCut (asked : Asked) (o : Outputs) : Type 0 where
  pub vars : ℕ
  pub form : List (List Lit)
  pub is_form : IsFormFor asked.problem vars form
  pub body : List Write
  pub is_body : IsBody asked form body
  pub count : ℕ
  pub within : count ≤ length body
  pub done : AreDone (short count body) o ⊎ AreDone (take count body) o
