use Rattle.std.proofs.Common.{◌≡◌, length}
use Rattle.solver_tests.proofs.solving.explained.log_with.Given as goal

abbrev pub invariant-loop-place : goal.invariant-loop-place
invariant-loop-place l = l.place-end ≡ length l.log
