use Rattle.std.proofs.Common.{◌≡◌, ℕ, length, false}
use Rattle.design_core.specs.Given.{freed_of}
use Rattle.value_runs.proofs.entries.none_freed.Given as goal

abbrev pub invariant-loop-k : goal.invariant-loop-k
invariant-loop-k l = record { count : length l.freed.items ≡ l._k; none : (p : ℕ) → freed_of l.freed.items p ≡ false }
