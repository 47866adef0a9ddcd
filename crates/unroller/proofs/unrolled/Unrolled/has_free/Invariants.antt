use Rattle.std.proofs.Common.{ℕ, ◌<◌}
use Rattle.unroller.specs.Reads.{IsFreeBit}
use Rattle.unroller.proofs.unrolled.Unrolled.has_free.Given as goal

abbrev pub invariant-loop-column : goal.invariant-loop-column
invariant-loop-column l = (k : ℕ) → k < l.column → IsFreeBit l.self l.place l.bit k → ⊥
