use Rattle.std.proofs.Common.{◌≡◌}
use Rattle.card_counter.specs.InForm.{literals_from}
use Rattle.solver_tests.proofs.sets.problem.selectors.Given as goal

abbrev pub invariant-loop-before : goal.invariant-loop-before
invariant-loop-before l = l.selectors.items ≡ literals_from 1 l.before
