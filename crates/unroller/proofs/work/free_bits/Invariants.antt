use Rattle.std.proofs.Common.{◌≡◌, ◌++◌, drop}
use Rattle.unroller.specs.Cycles.{free_bits}
use Rattle.unroller.proofs.work.free_bits.Given as goal

abbrev pub invariant-loop-i : goal.invariant-loop-i
invariant-loop-i l = free_bits l.nodes ≡ l.bits ++ free_bits (drop l.i l.nodes)
