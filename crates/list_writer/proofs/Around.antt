-- What a run leaves beside the checkpoints before its search and behind it, where it writes under other names.
use Rattle.std.proofs.Common.{◌≡◌, ℕ, true, false, List, drop, Option, Result, refl, sym, subst}
use Rattle.design_core.specs.declared.values.SetWithValues.{SetWithValues}
use Rattle.report_doc.specs.declared.types.Ending.{Ending}
use Rattle.set_waves.specs.Waved.{AreRuns, Runs}
use Rattle.write_order.specs.Writes.{Leaves}
use Rattle.write_order.specs.declared.write.WriteErr.{WriteErr}
use Rattle.debug_core.specs.Debugging.{DebugState}
use Rattle.list_writer.specs.declared.outcome.Outcome.{Outcome}
use Rattle.list_writer.specs.declared.pair.Pair.TheVariants.{First}
use Rattle.list_writer.specs.declared.stop.Stop.{Stop}
use Rattle.list_writer.specs.Asked.{Asked}
use Rattle.list_writer.specs.CheckpointNames.{beside, is_checkpoint}
use Rattle.list_writer.specs.Checkpoints.{CheckpointsStand}
use Rattle.list_writer.specs.Due.{first_writes}
use Rattle.list_writer.specs.Found.{Portion}
use Rattle.list_writer.specs.Going.{HasEnded, OpenLeaves, closing_writes, outputs}
use Rattle.list_writer.specs.Texts.{waved_for}
use Rattle.list_writer.proofs.Asides.{closing-aside, open-aside, open-moved}
use Rattle.list_writer.proofs.Beside.{done-beside, leaves-moved, some-left}
use Rattle.list_writer.proofs.Ended.{runs-of}
use Rattle.list_writer.proofs.Saved.{none-saved, saved-stays, saves-ended, stay-aside}

abbrev Texts : Type 0
Texts = List ℕ → Option (List ℕ)

module _ (asked : Asked) (log : is_checkpoint asked.checkpoints asked.log ≡ false) where
  abbrev b : Texts → Texts
  b w = beside asked.checkpoints w

  -- ---- before the search
  module _ (was is : Texts) (printed now_printed : List ℕ) (r : Result (Unit {0}) Stop)
      (left : OpenLeaves (first_writes asked) (outputs was is printed now_printed) r) where
    pub open-beside : OpenLeaves (first_writes asked) (outputs (b was) (b is) printed now_printed) r
    open-beside =
        open-moved asked log (outputs was is printed now_printed) (outputs (b was) (b is) printed now_printed)
        (λ writes aside done. done-beside was is printed now_printed asked.checkpoints writes aside done) r left

    pub open-leaves : (name : List ℕ) → is_checkpoint asked.checkpoints name ≡ true → is name ≡ was name
    open-leaves = stay-aside asked.checkpoints was is printed now_printed (open-aside asked log (outputs was is printed now_printed) r left)

    -- no checkpoint was made
    pub none-stand : (how : Outcome) → CheckpointsStand asked.checkpoints asked was is how
    none-stand how =
        saves-ended asked.checkpoints asked was is First how
        (saved-stays asked.checkpoints asked was was is First (none-saved asked.checkpoints asked was First refl) open-leaves)

  -- ---- behind it
  module _ (report : is_checkpoint asked.checkpoints asked.report ≡ false) (s : DebugState) (found : List SetWithValues) (steps : ℕ) (ending : Ending)
      (portions : List Portion) (has : HasEnded asked s found steps ending portions) (mid now : Texts) (mid_printed now_printed : List ℕ)
      (r : Result (Unit {0}) WriteErr)
      (left : (runs : Runs) → AreRuns (waved_for asked) found runs
      → Leaves (closing_writes asked found (drop steps s.log) ending runs) (outputs mid now mid_printed now_printed) r) where
    pub close-beside : (runs : Runs) → AreRuns (waved_for asked) found runs
        → Leaves (closing_writes asked found (drop steps s.log) ending runs) (outputs (b mid) (b now) mid_printed now_printed) r
    close-beside runs are =
        leaves-moved asked.checkpoints (outputs mid now mid_printed now_printed) (outputs (b mid) (b now) mid_printed now_printed)
        (λ writes aside done. done-beside mid now mid_printed now_printed asked.checkpoints writes aside done)
        (closing_writes asked found (drop steps s.log) ending runs) r (closing-aside asked log report found (drop steps s.log) ending runs) (left runs are)

    pub close-leaves : (name : List ℕ) → is_checkpoint asked.checkpoints name ≡ true → now name ≡ mid name
    close-leaves =
        let some = runs-of asked s found steps ending portions has in
        stay-aside asked.checkpoints mid now mid_printed now_printed
        (some-left asked.checkpoints (outputs mid now mid_printed now_printed) (closing_writes asked found (drop steps s.log) ending some.0)
        (closing-aside asked log report found (drop steps s.log) ending some.0) r
        (left some.0 (subst (λ (sets : List SetWithValues). AreRuns (waved_for asked) sets some.0) (sym has.found_are) some.1)))
