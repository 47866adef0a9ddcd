use Rattle.std.proofs.Common.{◌≡◌, ◌++◌, ◌∷◌, [], take}
use Rattle.std.specs.BinaryHeap.{heap_items}
use Rattle.sat_core.specs.Derivation.{MarksOthers}
use Rattle.sat_core.specs.Tracing.{IsTracing}
use Rattle.sat_core.proofs.tracing.Tracing.take_in.Given as goal

abbrev pub invariant-loop-l : goal.invariant-loop-l
invariant-loop-l l = record {
  tracing : IsTracing l.trail (heap_items l.self.due) l.self;
  marks : MarksOthers l.fn.self.marked.items l.self.marked.items (take l.l-index l.clause) l.skip;
  chain : l.self.chain.items ≡ l.fn.self.chain.items ++ l.number ∷ [];
}
