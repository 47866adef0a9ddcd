use Rattle.std.proofs.Common.{All}
use Rattle.dimacs_solver.specs.Words.{IsNumberWithin}
use Rattle.dimacs_solver.proofs.words.take_words.Given as goal

abbrev pub invariant-loop-word : goal.invariant-loop-word
invariant-loop-word l = All (λ number. IsNumberWithin l.vars number) l.numbers.items
