use Rattle.solver_tests.specs.Problems.{IsOfSameForm}
use Rattle.solver_tests.proofs.sets.problem.list_sets.Given as goal

abbrev pub invariant-loop : goal.invariant-loop
invariant-loop g l = IsOfSameForm l.fn.enumerator l.enumerator
