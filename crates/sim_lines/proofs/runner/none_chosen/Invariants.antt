use Rattle.std.proofs.Common.{◌≡◌, length}
use Rattle.std.specs.Prelude.{All}
use Rattle.loc_base.specs.Bits.{value_of}
use Rattle.sim_lines.proofs.runner.none_chosen.Given as goal

abbrev pub invariant-loop-k : goal.invariant-loop-k
invariant-loop-k l = record { count : length l.choice.items ≡ l._k; zeros : All (λ w. value_of w ≡ 0) l.choice.items }
