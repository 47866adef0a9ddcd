-- Checkpoints: while a listing goes on, the log and the report that it would end with if its budget were spent just then. Each is written
-- whole, under the names of two pairs in turn.
use Rattle.std.specs.Prelude.{ℕ, ◌≡◌, ◌≤◌, ◌<◌, ◌^◌, ◌⊎◌, true, List, [], ◌∷◌, ◌++◌, All, Option, Some, None, length, slice_get, take}
use Rattle.clause_base.specs.declared.literal.Lit.{Lit}
use Rattle.clause_base.specs.declared.log.Step.{Step}
use Rattle.debug_core.specs.Problems.{IsFormFor}
use Rattle.proof_check.specs.Text.{text_of}
use Rattle.report_doc.specs.declared.types.Ending.TheVariants.{Budget}
use Rattle.report_doc.specs.Shape.{IsReport}
use Rattle.set_waves.specs.Writes.{text_writes}
use Rattle.write_order.specs.Writes.{IsPartOf, Write, text_behind}
use Rattle.list_writer.specs.declared.pair.Pair.{Pair}
use Rattle.list_writer.specs.declared.pair.Pair.TheVariants.{First}
use Rattle.list_writer.specs.declared.outcome.Outcome.{Outcome}
use Rattle.list_writer.specs.declared.outcome.Outcome.TheVariants.{Ended, Failed, Memory}
use Rattle.list_writer.specs.Asked.{Asked}
use Rattle.list_writer.specs.CheckpointNames.{is_name, log_name, other, report_name}
use Rattle.list_writer.specs.Found.{IsEnded, Portion, found_of, log_of}
use Rattle.list_writer.specs.Texts.{report_for, report_of}

-- ---- what a checkpoint is
-- what was found, and the steps behind the last set, those of its certificate too
pub record Checkpoint : Type 0 where
  pub portions : List Portion
  pub rest : List Step

-- its two texts
abbrev pub log_text : Asked → Checkpoint → List ℕ
log_text asked c = text_of (record { inputs = asked.inputs; log = log_of asked c.portions ++ c.rest })

abbrev pub report_text : Asked → Checkpoint → List ℕ
report_text asked c = report_of asked (found_of asked c.portions) Budget

-- some sets are listed, and all is as where the listing had ended because just so many units were its budget
pub record IsCheckpoint (asked : Asked) (c : Checkpoint) : Type 0 where
  pub vars : ℕ
  pub form : List (List Lit)
  pub is_form : IsFormFor asked.problem vars form
  pub some : 0 < length (found_of asked c.portions)
  pub spent : ℕ
  pub within : spent ≤ asked.budget
  pub few : spent < 3 ^ vars
  pub is_ended : IsEnded (record asked { budget = spent }) form c.portions c.rest Budget
  pub is_report : IsReport (report_for asked (found_of asked c.portions) Budget)

-- ---- its writes
-- the log's is begun and put whole, and then the report's
abbrev pub checkpoint_writes : Asked → List ℕ → Pair → Checkpoint → List Write
checkpoint_writes asked prefix pair c =
    text_writes (log_name prefix pair) (log_text asked c) ++ text_writes (report_name prefix pair) (report_text asked c)

-- those of all checkpoints: the first has this pair, the next the other, and so on
abbrev pub all_writes : Asked → List ℕ → Pair → List Checkpoint → List Write
all_writes asked prefix pair [] = []
all_writes asked prefix pair (c ∷ made) = checkpoint_writes asked prefix pair c ++ all_writes asked prefix (other pair) made

-- the pair of the next one
abbrev pub pair_behind : Pair → List Checkpoint → Pair
pair_behind pair [] = pair
pair_behind pair (c ∷ made) = pair_behind (other pair) made

-- ---- what stands
-- the first of some writes
abbrev pub AreFirst : List Write → List Write → Type 0
AreFirst writes done = (count : ℕ) × (done ≡ take count writes)

-- the first of some writes, and a part of one that failed
pub record AreFailed (writes done : List Write) : Type 0 where
  pub count : ℕ
  pub failed : Write
  pub at : slice_get writes count ≡ Some failed
  pub part : List Write
  pub is_part : IsPartOf failed part
  pub are : done ≡ take count writes ++ part

-- something was done of one checkpoint more
pub record IsOneMore (asked : Asked) (prefix : List ℕ) (pair : Pair) (IsPart : List Write → List Write → Type 0) (done : List Write) : Type 0 where
  pub checkpoint : Checkpoint
  pub is : IsCheckpoint asked checkpoint
  pub part : IsPart (checkpoint_writes asked prefix pair checkpoint) done

-- what was done behind the checkpoints that were made: nothing where the listing came to its end; else nothing, or something of one more
abbrev pub AreMore : Outcome → Asked → List ℕ → Pair → List Write → Type 0
AreMore (Ended ending) asked prefix pair done = done ≡ []
AreMore Failed asked prefix pair done =
    (done ≡ []) ⊎ IsOneMore asked prefix pair (λ writes some. AreFirst writes some ⊎ AreFailed writes some) done
AreMore Memory asked prefix pair done = (done ≡ []) ⊎ IsOneMore asked prefix pair AreFirst done

-- the texts under the checkpoints' names: those that were made were put whole, in turn, and behind them what was done of one more
pub record AreSaved (asked : Asked) (prefix : List ℕ) (was is : List ℕ → Option (List ℕ)) (outcome : Outcome) : Type 0 where
  pub made : List Checkpoint
  pub each : All (IsCheckpoint asked) made
  pub more : List Write
  pub is_more : AreMore outcome asked prefix (pair_behind First made) more
  pub stand : (name : List ℕ) → is_name prefix name ≡ true
      → is name ≡ text_behind name (all_writes asked prefix First made ++ more) (was name)

-- where checkpoints are asked for
abbrev pub CheckpointsStand : Option (List ℕ) → Asked → (List ℕ → Option (List ℕ)) → (List ℕ → Option (List ℕ)) → Outcome → Type 0
CheckpointsStand None asked was is outcome = Unit {0}
CheckpointsStand (Some prefix) asked was is outcome = AreSaved asked prefix was is outcome
