use Rattle.std.proofs.Common.{ℕ, ◌<◌, [], get_or}
use Rattle.clause_base.specs.Satisfaction.{SatisfiesClause}
use Rattle.sat_core.specs.SolverState.{assignment_of}
use Rattle.dimacs_solver.proofs.model.satisfies.Given as goal

abbrev pub invariant-loop-place : goal.invariant-loop-place
invariant-loop-place l = (k : ℕ) → k < l.place → SatisfiesClause (assignment_of l.model) (get_or l.clauses k [])
