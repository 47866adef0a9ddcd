use Rattle.std.proofs.Common.{◌<◌, ◌^◌}
use Rattle.dimacs_solver.proofs.request.request_of.Given as goal

abbrev pub invariant-loop-place : goal.invariant-loop-place
invariant-loop-place l = l.request.units < 2 ^ 31
