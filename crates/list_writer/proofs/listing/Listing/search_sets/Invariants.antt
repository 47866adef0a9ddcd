use Rattle.std.proofs.Common.{◌≡◌, ◌≤◌, ◌+◌, ◌-◌, ◌&&◌, length, true}
use Rattle.std.specs.Prelude.{IsSome}
use Rattle.command_contract.specs.Contract.{NoneRose, counts_of}
use Rattle.list_writer.specs.CheckpointNames.{beside}
use Rattle.list_writer.specs.Going.{SearchGoes, outputs}
use Rattle.list_writer.specs.Jobs.{asked_of, asked_with, session_of}
use Rattle.list_writer.specs.Saving.{SavedSoFar}
use Rattle.list_writer.proofs.listing.Listing.search_sets.Given as goal

abbrev pub invariant-loop-sizes : goal.invariant-loop-sizes
invariant-loop-sizes g l = record {
  job : l.self.job ≡ l.fn.self.job;
  tells_shelf : g.S.Shelf.tells l.shelf ≡ g.S.Shelf.tells l.fn.shelf;
  tells_sink : g.O.Sink.tells l.out ≡ g.O.Sink.tells l.fn.out;
  texts : g.S.Shelf.texts l.shelf ≡ g.S.Shelf.texts l.fn.shelf;
  begun : g.S.Shelf.tells l.fn.shelf ≡ true → IsSome (g.S.Shelf.written l.shelf l.fn.self.job.log.now);
  few : length l.self.found.items ≤ length l.fn.self.found.items + l.fn.self.job.sets;
  goes : SearchGoes (asked_with l.fn.self.job (session_of l.fn.self.found.items (g.D.Search.state l.fn.self.search))) (g.D.Search.state l.self.search) l.self.found.items l.self.steps l.self.left
      (outputs (beside (asked_of l.fn.self.job).checkpoints (g.S.Shelf.written l.fn.shelf))
      (beside (asked_of l.fn.self.job).checkpoints (g.S.Shelf.written l.shelf)) (g.O.Sink.written l.fn.out) (g.O.Sink.written l.out))
      (g.S.Shelf.tells l.fn.shelf && g.O.Sink.tells l.fn.out);
  saved : g.S.Shelf.tells l.fn.shelf ≡ true → g.O.Sink.tells l.fn.out ≡ true
      → SavedSoFar (asked_of l.fn.self.job).checkpoints (asked_with l.fn.self.job (session_of l.fn.self.found.items (g.D.Search.state l.fn.self.search)))
      (g.S.Shelf.written l.fn.shelf) (g.S.Shelf.written l.shelf) l.saves.next;
  causes : NoneRose (counts_of (g.S.Shelf.faults l.fn.shelf) (g.S.Shelf.faults l.shelf) (g.O.Sink.faults l.fn.out) (g.O.Sink.faults l.out));
}

abbrev pub decreases-loop-sizes : goal.decreases-loop-sizes
decreases-loop-sizes g l = length l.fn.self.found.items + l.fn.self.job.sets - length l.self.found.items + l.self.left
