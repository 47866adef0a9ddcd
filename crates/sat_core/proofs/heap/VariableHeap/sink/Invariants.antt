use Rattle.std.proofs.Common.{◌≡◌, ◌-◌, length}
use Rattle.sat_core.proofs.heap.VariableHeap.sink.Given as goal

abbrev pub invariant-loop-child : goal.invariant-loop-child
invariant-loop-child l = length l.self.heap.items ≡ length l.fn.self.heap.items

abbrev pub decreases-loop-child : goal.decreases-loop-child
decreases-loop-child l = length l.self.heap.items - l.place
