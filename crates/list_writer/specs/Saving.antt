-- Private, for the functions inside this crate: what a checkpoint of a moment is written of, and what is known of those so far.
use Rattle.std.specs.Prelude.{ℕ, ◌≡◌, ◌<◌, ◌⊎◌, true, List, [], ◌++◌, All, Option, Some, None, Result, Ok, Err, length, map}
use Rattle.design_core.specs.declared.values.SetWithValues.{SetWithValues}
use Rattle.clause_base.specs.Literal.{AllDistinct}
use Rattle.log_portions.specs.Portions.{head_text, steps_text}
use Rattle.proof_check.specs.Text.{IsDigest}
use Rattle.report_doc.specs.declared.types.Ending.{Ending}
use Rattle.report_doc.specs.declared.types.Ending.TheVariants.{Budget}
use Rattle.report_doc.specs.Shape.{IsReport}
use Rattle.set_waves.specs.Writes.{text_writes}
use Rattle.write_order.specs.Writes.{AreBegun, AreDone, Outputs, StopsIn, Write, on_shelf, text_behind}
use Rattle.write_order.specs.declared.write.WriteErr.{WriteErr}
use Rattle.write_order.specs.declared.write.WriteErr.TheVariants as write
use Rattle.debug_core.specs.Debugging.{DebugState}
use Rattle.list_writer.specs.declared.outcome.Outcome.{Outcome}
use Rattle.list_writer.specs.declared.outcome.Outcome.TheVariants as outcome
use Rattle.list_writer.specs.declared.pair.Pair.{Pair}
use Rattle.list_writer.specs.declared.pair.Pair.TheVariants.{First}
use Rattle.list_writer.specs.declared.stop.Stop.{Stop}
use Rattle.list_writer.specs.declared.stop.Stop.TheVariants.{Failed, Memory}
use Rattle.list_writer.specs.Asked.{Asked}
use Rattle.list_writer.specs.CheckpointNames.{is_name, log_name, other, report_name}
use Rattle.list_writer.specs.Checkpoints.{Checkpoint, CheckpointsStand, IsCheckpoint, all_writes, pair_behind}
use Rattle.list_writer.specs.Texts.{report_for, report_of}

-- ---- a checkpoint of a moment
-- its two texts: the log with the steps of the certificate, and the report
abbrev pub now_log : Asked → DebugState → List ℕ
now_log asked s = (head_text asked.inputs ++ steps_text s.log) ++ steps_text s.certificate

abbrev pub now_writes : Asked → DebugState → List SetWithValues → List ℕ → Pair → List Write
now_writes asked s found prefix pair =
    text_writes (log_name prefix pair) (now_log asked s) ++ text_writes (report_name prefix pair) (report_of asked found Budget)

-- some set is listed, and both texts can be read back
pub record IsSavable (asked : Asked) (s : DebugState) (found : List SetWithValues) : Type 0 where
  pub some : 0 < length found
  pub digest : IsDigest asked.inputs
  pub distinct : AllDistinct (map (λ step. step.clause) s.certificate)
  pub report : IsReport (report_for asked found Budget)

-- what is there when one is made, the pair that is the next before and behind it, and the texts before and behind it
pub record SavingNow : Type 0 where
  pub asked : Asked
  pub s : DebugState
  pub found : List SetWithValues
  pub pair : Pair
  pub now_pair : Pair
  pub was : List ℕ → Option (List ℕ)
  pub is : List ℕ → Option (List ℕ)

abbrev pub saving_of : Asked → DebugState → List SetWithValues → Pair → Pair → (List ℕ → Option (List ℕ)) → (List ℕ → Option (List ℕ)) → SavingNow
saving_of asked s found pair now_pair was is =
    record { asked = asked; s = s; found = found; pair = pair; now_pair = now_pair; was = was; is = is }

-- nothing is written
abbrev pub Stays : SavingNow → Type 0
Stays v = AreDone [] (on_shelf v.was v.is [])

-- one was to be written, under names of the prefix that is asked for, and its writes left this
pub record Puts (v : SavingNow) (AreLeft : List Write → Outputs → Type 0) : Type 0 where
  pub prefix : List ℕ
  pub asks : v.asked.checkpoints ≡ Some prefix
  pub savable : IsSavable v.asked v.s v.found
  pub left : AreLeft (now_writes v.asked v.s v.found prefix v.pair) (on_shelf v.was v.is [])

abbrev pub WriteLeaves : {X : Type 0} → SavingNow → Result X WriteErr → Type 0
WriteLeaves v (Ok x) = Puts v AreDone × (v.now_pair ≡ other v.pair)
WriteLeaves v (Err write.Failed) = Puts v StopsIn
WriteLeaves v (Err write.NoMemory) = Stays v ⊎ Puts v AreBegun

abbrev pub SaveLeaves : {X : Type 0} → SavingNow → Result X Stop → Type 0
SaveLeaves v (Ok x) = (Stays v × (v.now_pair ≡ v.pair)) ⊎ (Puts v AreDone × (v.now_pair ≡ other v.pair))
SaveLeaves v (Err Failed) = Puts v StopsIn
SaveLeaves v (Err (Memory sets)) = (sets ≡ Some (length v.found)) × (Stays v ⊎ Puts v AreBegun)

-- ---- those so far
-- they were put whole, in turn, and the next pair is this one
pub record AreSoFar (asked : Asked) (prefix : List ℕ) (was is : List ℕ → Option (List ℕ)) (pair : Pair) : Type 0 where
  pub made : List Checkpoint
  pub each : All (IsCheckpoint asked) made
  pub turn : pair ≡ pair_behind First made
  pub stand : (name : List ℕ) → is_name prefix name ≡ true → is name ≡ text_behind name (all_writes asked prefix First made) (was name)

abbrev pub SavedSoFar : Option (List ℕ) → Asked → (List ℕ → Option (List ℕ)) → (List ℕ → Option (List ℕ)) → Pair → Type 0
SavedSoFar None asked was is pair = Unit {0}
SavedSoFar (Some prefix) asked was is pair = AreSoFar asked prefix was is pair

-- the outcome of a listing whose search and writes come to this
abbrev pub outcome_of : Result Ending Stop → Outcome
outcome_of (Ok ending) = outcome.Ended ending
outcome_of (Err Failed) = outcome.Failed
outcome_of (Err (Memory sets)) = outcome.Memory

abbrev pub RunSaves : Asked → (List ℕ → Option (List ℕ)) → (List ℕ → Option (List ℕ)) → Result Ending Stop → Type 0
RunSaves asked was is result = CheckpointsStand asked.checkpoints asked was is (outcome_of result)

-- memory was wanted behind so many sets that are printed
abbrev pub StopsBehind : ℕ → Stop → Type 0
StopsBehind count Failed = Unit {0}
StopsBehind count (Memory sets) = sets ≡ Some count
