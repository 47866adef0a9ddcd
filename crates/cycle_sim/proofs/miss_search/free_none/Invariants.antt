use Rattle.std.proofs.Common.{◌≡◌, ◌<◌, ℕ, length, false}
use Rattle.design_core.specs.Given.{freed_of}
use Rattle.cycle_sim.specs.Replaying.{chosen_at}
use Rattle.cycle_sim.proofs.miss_search.free_none.Given as goal

abbrev pub invariant-loop-p : goal.invariant-loop-p
invariant-loop-p l =
    record {
      freed_length : length l.freed ≡ length l.initial.freed;
      choice_length : length l.choice ≡ length l.initial.choice;
      freed : (p : ℕ) → p < l.p → freed_of l.freed p ≡ false;
      choice : (p : ℕ) → p < l.p → chosen_at l.choice p ≡ 0;
    }
