use Rattle.std.proofs.Common.{◌≡◌, length, take}
use Rattle.std.specs.Prelude.{All, true}
use Rattle.requests.specs.Views.{sources_asked}
use Rattle.load_texts.specs.By.{manner_asked}
use Rattle.load_texts.specs.Means.{AreKeptOf, IsReadOf, MeanTraces}
use Rattle.load_texts.proofs.loads.fetch_traces.Given as goal

abbrev pub invariant-loop-place : goal.invariant-loop-place
invariant-loop-place g l =
    record {
      tells : g.S.Shelf.tells l.shelf ≡ g.S.Shelf.tells l.initial.shelf;
      texts : g.S.Shelf.texts l.shelf ≡ g.S.Shelf.texts l.initial.shelf;
      written : g.S.Shelf.written l.shelf ≡ g.S.Shelf.written l.initial.shelf;
      faults : g.S.Shelf.faults l.shelf ≡ g.S.Shelf.faults l.initial.shelf;
      fits : All (IsReadOf l.dumps.design.now) l.read.traces.items;
      count : length l.read.traces.items ≡ l.place;
      mean : g.S.Shelf.tells l.initial.shelf ≡ true
          → MeanTraces (g.S.Shelf.texts l.initial.shelf) (manner_asked (sources_asked l.dumps.sources.now)) l.dumps.design.now
          (take l.place (sources_asked l.dumps.sources.now).texts.traces) l.read.traces.items;
      kept : g.S.Shelf.tells l.initial.shelf ≡ true
          → AreKeptOf g.K.Imprint.is_of (g.S.Shelf.texts l.initial.shelf)
          (take l.place (sources_asked l.dumps.sources.now).texts.traces) l.read.imprints.items;
    }
