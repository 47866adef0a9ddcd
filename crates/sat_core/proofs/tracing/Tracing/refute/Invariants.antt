use Rattle.std.proofs.Common.{length}
use Rattle.std.specs.BinaryHeap.{heap_items}
use Rattle.sat_core.specs.Derivation.{Refutes}
use Rattle.sat_core.specs.Tracing.{IsTracing}
use Rattle.sat_core.proofs.TracingBack.{top}
use Rattle.sat_core.proofs.tracing.Tracing.refute.Given as goal

abbrev pub invariant-loop-place : goal.invariant-loop-place
invariant-loop-place l = record {
  tracing : IsTracing l.trail (heap_items l.self.due) l.self;
  refutes : Refutes l.trail l.fn.self.marked.items l.self.marked.items l.fn.self.chain.items l.self.chain.items (length l.trail.entries);
}

abbrev pub decreases-loop-place : goal.decreases-loop-place
decreases-loop-place l = top (heap_items l.self.due)
