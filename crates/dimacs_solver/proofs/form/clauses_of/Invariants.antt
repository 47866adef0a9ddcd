use Rattle.std.proofs.Common.{◌≡◌, drop, map, []}
use Rattle.dimacs_solver.specs.Words.{word_of}
use Rattle.dimacs_solver.specs.Reading.{after_all}
use Rattle.dimacs_solver.proofs.form.clauses_of.Given as goal

abbrev pub invariant-loop-number : goal.invariant-loop-number
invariant-loop-number l = after_all (record { clauses = l.clauses; literals = l.literals.items }) (map word_of (drop l.number-index l.numbers)) ≡ after_all (record { clauses = []; literals = [] }) (map word_of l.numbers)
