use Rattle.std.proofs.Common.{◌<◌, length}
use Rattle.solver_tests.proofs.solving.goes.Given as goal

abbrev pub invariant-loop-call : goal.invariant-loop-call
invariant-loop-call g l = length l.solver.form < 1000
