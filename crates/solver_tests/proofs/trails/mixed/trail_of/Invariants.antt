use Rattle.std.proofs.Common.{◌≤◌, length}
use Rattle.solver_tests.proofs.trails.mixed.trail_of.Given as goal

abbrev pub invariant-loop-clause : goal.invariant-loop-clause
invariant-loop-clause g l = length l.trail.clauses ≤ l.clause-index
