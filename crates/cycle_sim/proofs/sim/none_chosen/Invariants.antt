use Rattle.std.proofs.Common.{◌≡◌, length}
use Rattle.cycle_sim.proofs.sim.none_chosen.Given as goal

abbrev pub invariant-loop-k : goal.invariant-loop-k
invariant-loop-k l = length l.choice.items ≡ l._k
