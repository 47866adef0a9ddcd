use Rattle.std.proofs.Common.{◌≤◌, length}
use Rattle.solver_tests.proofs.trails.trail_of.Given as goal

abbrev pub invariant-loop-numbers : goal.invariant-loop-numbers
invariant-loop-numbers g l = length l.trail.clauses ≤ l.numbers-index
