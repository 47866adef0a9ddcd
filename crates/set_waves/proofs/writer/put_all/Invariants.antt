use Rattle.std.proofs.Common.{◌≡◌, ℕ, List, take}
use Rattle.std.specs.Prelude.{true}
use Rattle.write_order.specs.Writes.{AreDone, on_shelf}
use Rattle.set_waves.specs.Waved.{AreRuns, Runs, waved_of}
use Rattle.set_waves.specs.Writes.{waves_writes}
use Rattle.set_waves.specs.Writing.{IsWriter}
use Rattle.set_waves.proofs.writer.put_all.Given as goal

abbrev pub invariant-loop-s : goal.invariant-loop-s
invariant-loop-s g l = record {
  writer : IsWriter l.writer;
  waves : l.writer.waves ≡ l.waves;
  tells : g.S.Shelf.tells l.shelf ≡ g.S.Shelf.tells l.initial.shelf;
  texts : g.S.Shelf.texts l.shelf ≡ g.S.Shelf.texts l.initial.shelf;
  faults : g.S.Shelf.faults l.shelf ≡ g.S.Shelf.faults l.initial.shelf;
  done : g.S.Shelf.tells l.initial.shelf ≡ true → (runs : Runs) (printed : List ℕ) → AreRuns (waved_of l.waves) l.sets runs
      → AreDone (waves_writes (waved_of l.waves) l.waves.prefix.now runs 0 (take l.s l.sets))
      (on_shelf (g.S.Shelf.written l.initial.shelf) (g.S.Shelf.written l.shelf) printed);
}
