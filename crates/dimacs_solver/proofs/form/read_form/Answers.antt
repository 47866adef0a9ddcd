use Rattle.std.proofs.Common.{rules, ◌≡◌, map, sym, subst}
use Rattle.std.proofs.lemmas.List.Elements.{All-map}
use Rattle.clause_base.specs.Literal.{AreWithin}
use Rattle.dimacs_solver.specs.Words.{word_of, IsWordWithin}
use Rattle.dimacs_solver.specs.Reading.{clauses_of}
use Rattle.dimacs_solver.proofs.Within.{clauses_of_within}
use Rattle.dimacs_solver.proofs.form.read_form.Goals as goal

pub returns-clause-within : goal.returns-clause-within
returns-clause-within c =
    let gives : c.in_ok-clauses.clauses ≡ clauses_of (map word_of c.in_ok-read.read.numbers.items) = search rules in
    subst (λ clauses. AreWithin c.in_ok-read.read.problem.vars clauses) (sym gives)
    (clauses_of_within c.in_ok-read.read.problem.vars (map word_of c.in_ok-read.read.numbers.items)
    (All-map (IsWordWithin c.in_ok-read.read.problem.vars) word_of c.in_ok-read.read.numbers.items c.in_ok-read.ensures))
