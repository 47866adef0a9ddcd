use Rattle.std.proofs.Common.{◌≡◌, length}
use Rattle.cycle_sim.proofs.sim.none_freed.Given as goal

abbrev pub invariant-loop-k : goal.invariant-loop-k
invariant-loop-k l = length l.freed.items ≡ l._k
