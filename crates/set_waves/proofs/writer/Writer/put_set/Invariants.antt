use Rattle.std.proofs.Common.{◌≡◌, ℕ, List, take}
use Rattle.std.specs.Prelude.{true}
use Rattle.design_core.specs.Explained.{cycles_before}
use Rattle.design_core.specs.Valuation.{Valuation}
use Rattle.write_order.specs.Writes.{AreDone, on_shelf}
use Rattle.set_waves.specs.Waved.{waved_of}
use Rattle.set_waves.specs.Writes.{set_writes}
use Rattle.set_waves.specs.Writing.{AreRunsWith, IsWriter}
use Rattle.set_waves.proofs.writer.Writer.put_set.Given as goal

abbrev pub invariant-loop-j : goal.invariant-loop-j
invariant-loop-j g l = record {
  writer : IsWriter l.self;
  waves : l.self.waves ≡ l.fn.self.waves;
  first : l.first ≡ cycles_before l.traces l.j;
  tells : g.S.Shelf.tells l.shelf ≡ g.S.Shelf.tells l.initial.shelf;
  texts : g.S.Shelf.texts l.shelf ≡ g.S.Shelf.texts l.initial.shelf;
  faults : g.S.Shelf.faults l.shelf ≡ g.S.Shelf.faults l.initial.shelf;
  done : g.S.Shelf.tells l.initial.shelf ≡ true → (runs : ℕ → List Valuation) (printed : List ℕ)
      → AreRunsWith (waved_of l.fn.self.waves) l.values runs
      → AreDone (set_writes (waved_of l.fn.self.waves) l.fn.self.waves.prefix.now l.number l.values runs 0 (take l.j l.traces))
      (on_shelf (g.S.Shelf.written l.initial.shelf) (g.S.Shelf.written l.shelf) printed);
}
