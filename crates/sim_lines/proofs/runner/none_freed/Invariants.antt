use Rattle.std.proofs.Common.{◌≡◌, length}
use Rattle.std.specs.Prelude.{All, false}
use Rattle.sim_lines.proofs.runner.none_freed.Given as goal

abbrev pub invariant-loop-k : goal.invariant-loop-k
invariant-loop-k l = record { count : length l.freed.items ≡ l._k; none : All (λ b. b ≡ false) l.freed.items }
