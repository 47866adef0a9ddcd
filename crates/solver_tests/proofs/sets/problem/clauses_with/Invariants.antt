use Rattle.card_counter.specs.InForm.{HasCounter}
use Rattle.solver_tests.proofs.sets.problem.clauses_with.Given as goal

abbrev pub invariant-loop-place : goal.invariant-loop-place
invariant-loop-place g l = HasCounter l.n l.k l.vars l.clauses
