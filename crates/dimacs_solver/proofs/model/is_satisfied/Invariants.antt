use Rattle.std.proofs.Common.{◌≡◌, drop}
use Rattle.clause_base.specs.Satisfaction.{is_satisfied}
use Rattle.sat_core.specs.SolverState.{assignment_of}
use Rattle.dimacs_solver.proofs.model.is_satisfied.Given as goal

abbrev pub invariant-loop-literal : goal.invariant-loop-literal
invariant-loop-literal l = is_satisfied (assignment_of l.model) (drop l.literal-index l.clause) ≡ is_satisfied (assignment_of l.model) l.clause
