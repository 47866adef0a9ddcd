use Rattle.std.proofs.Common.{◌≡◌, ℕ, length, drop}
use Rattle.std.specs.Prelude.{◌||◌}
use Rattle.design_core.specs.Given.{freed_of}
use Rattle.design_core.specs.Explained.{is_one_of}
use Rattle.value_runs.proofs.entries.free.Given as goal

abbrev pub invariant-loop-k : goal.invariant-loop-k
invariant-loop-k l =
    record {
      length : length l.freed ≡ length l.initial.freed;
      freed : (p : ℕ) → (is_one_of (drop l.k l.places) p || freed_of l.freed p) ≡ (is_one_of l.places p || freed_of l.initial.freed p);
    }
