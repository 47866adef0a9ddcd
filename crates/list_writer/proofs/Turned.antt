-- The turns of a search with a checkpoint before each of them: what stands beside the checkpoints is as without.
use Rattle.std.proofs.Common.{◌≡◌, ℕ, ◌+◌, ◌<◌, ◌≤◌, Bool, true, false, List, length, Option, Some, None, Result, Ok, Err}
use Rattle.std.proofs.Common.{refl}
use Rattle.design_core.specs.declared.values.SetWithValues.{SetWithValues}
use Rattle.report_doc.specs.declared.types.Ending.{Ending}
use Rattle.debug_core.specs.Debugging.{DebugState}
use Rattle.list_writer.specs.declared.stop.Stop.{Stop}
use Rattle.list_writer.specs.Asked.{Asked, most_sets}
use Rattle.list_writer.specs.CheckpointNames.{beside, is_checkpoint}
use Rattle.list_writer.specs.Going.{IsSearched, IsTurn, SearchGoes, Turn, outputs, searched_of, turn_of}
use Rattle.list_writer.proofs.Asides.{turn-aside, turn-moved}
use Rattle.list_writer.proofs.Beside.{done-beside}
use Rattle.list_writer.proofs.Saved.{stay-aside}
use Rattle.list_writer.proofs.Turning.{ends-searched, errs, goes-on, goes-still, one-kept}

abbrev Texts : Type 0
Texts = List ℕ → Option (List ℕ)

-- before a turn, behind a call that may make a checkpoint, and the turn
module _ (asked : Asked) (log : is_checkpoint asked.checkpoints asked.log ≡ false) (old new : DebugState) (found now_found : List SetWithValues)
    (steps now_steps left now_left : ℕ) (was mid saved is : Texts) (printed mid_printed now_printed : List ℕ) (told now_told : Bool)
    (same : now_told ≡ told)
    (before : SearchGoes asked old found steps left (outputs (beside asked.checkpoints was) (beside asked.checkpoints mid) printed mid_printed) told)
    (still : told ≡ true → (name : List ℕ) → beside asked.checkpoints saved name ≡ beside asked.checkpoints mid name) where
  abbrev b : Texts → Texts
  b w = beside asked.checkpoints w

  abbrev raw : Turn
  raw = turn_of asked old new (record { found = found; steps = steps; left = left })
      (record { found = now_found; steps = now_steps; left = now_left }) (outputs saved is mid_printed now_printed) now_told

  abbrev turn : Turn
  turn = turn_of asked old new (record { found = found; steps = steps; left = left })
      (record { found = now_found; steps = now_steps; left = now_left }) (outputs (b saved) (b is) mid_printed now_printed) now_told

  goes : SearchGoes asked old found steps left (outputs (b was) (b saved) printed mid_printed) told
  goes = goes-still asked old found steps left (b was) (b mid) (b saved) printed mid_printed told before still

  turned : (r : Result (Option Ending) Stop) → IsTurn raw r → IsTurn turn r
  turned r t =
      turn-moved asked log old new found now_found steps now_steps left now_left (outputs saved is mid_printed now_printed)
      (outputs (b saved) (b is) mid_printed now_printed) now_told
      (λ tells writes aside done. done-beside saved is mid_printed now_printed asked.checkpoints writes aside done) r t

  pub errs-beside : (why : Stop) → IsTurn raw (Err why)
      → IsSearched (searched_of asked new now_found now_steps (outputs (b was) (b is) printed now_printed) told) (Err why)
  errs-beside why t =
      errs asked old new found now_found steps now_steps left now_left (b was) (b saved) (b is) printed mid_printed now_printed told now_told same
      goes why (turned (Err why) t)

  pub ends-beside : (ending : Ending) → length found < most_sets asked → IsTurn raw (Ok (Some ending))
      → IsSearched (searched_of asked new now_found now_steps (outputs (b was) (b is) printed now_printed) told) (Ok ending)
  ends-beside ending few t =
      ends-searched asked old new found now_found steps now_steps left now_left (b was) (b saved) (b is) printed mid_printed now_printed told now_told
      same goes ending few (turned (Ok (Some ending)) t)

  pub goes-beside : IsTurn raw (Ok None)
      → SearchGoes asked new now_found now_steps now_left (outputs (b was) (b is) printed now_printed) told
  goes-beside t =
      goes-on asked old new found now_found steps now_steps left now_left (b was) (b saved) (b is) printed mid_printed now_printed told now_told same
      goes (turned (Ok None) t)

  pub kept-beside : IsTurn raw (Ok None) → (length now_found ≤ length found + 1) × (length found + now_left < length now_found + left)
  kept-beside t =
      one-kept asked old new found now_found steps now_steps left now_left (b was) (b saved) (b is) printed mid_printed now_printed told now_told same
      goes (turned (Ok None) t)

  -- a turn leaves the checkpoints' texts
  pub turn-leaves : now_told ≡ true → (r : Result (Option Ending) Stop) → IsTurn raw r → (name : List ℕ) → is_checkpoint asked.checkpoints name ≡ true
      → is name ≡ saved name
  turn-leaves tells r t = stay-aside asked.checkpoints saved is mid_printed now_printed (turn-aside asked log raw refl tells r t)
