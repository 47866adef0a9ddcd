use Rattle.std.proofs.Common.{◌<◌, length}
use Rattle.solver_tests.proofs.solving.blocks.blocking_each_model_comes_to_all_seven.Given as goal

abbrev pub invariant-loop : goal.invariant-loop
invariant-loop g l = length l.solver.form < 1000
