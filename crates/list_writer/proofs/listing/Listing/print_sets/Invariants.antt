use Rattle.std.proofs.Common.{◌≡◌, ℕ, List, Option, true, take}
use Rattle.write_order.specs.Writes.{AreDone, on_sink}
use Rattle.list_writer.specs.Going.{lines_writes}
use Rattle.list_writer.specs.Jobs.{asked_of}
use Rattle.list_writer.proofs.listing.Listing.print_sets.Given as goal

abbrev pub invariant-loop-count : goal.invariant-loop-count
invariant-loop-count g l = record {
  tells : g.O.Sink.tells l.out ≡ g.O.Sink.tells l.fn.out;
  faults : g.O.Sink.faults l.out ≡ g.O.Sink.faults l.fn.out;
  left : g.O.Sink.tells l.fn.out ≡ true → (written : List ℕ → Option (List ℕ))
      → AreDone (take l.count (lines_writes (asked_of l.self.job) l.self.found.items))
      (on_sink written (g.O.Sink.written l.fn.out) (g.O.Sink.written l.out));
}
