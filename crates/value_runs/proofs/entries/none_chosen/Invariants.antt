use Rattle.std.proofs.Common.{◌≡◌, ℕ, length}
use Rattle.cycle_sim.specs.Replaying.{chosen_at}
use Rattle.value_runs.proofs.entries.none_chosen.Given as goal

abbrev pub invariant-loop-k : goal.invariant-loop-k
invariant-loop-k l = record { count : length l.choice.items ≡ l._k; zeros : (p : ℕ) → chosen_at l.choice.items p ≡ 0 }
