use Rattle.dimacs_solver.specs.Words.{AreNumbersOf}
use Rattle.dimacs_solver.proofs.words.read_words.Given as goal

abbrev pub invariant-loop-line : goal.invariant-loop-line
invariant-loop-line l = AreNumbersOf l.problem l.numbers.items
