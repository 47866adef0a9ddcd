use Rattle.std.proofs.Common.{◌≡◌, drop}
use Rattle.clause_base.specs.Literal.{has}
use Rattle.dimacs_solver.proofs.form.has.Given as goal

abbrev pub invariant-loop-known : goal.invariant-loop-known
invariant-loop-known l = has (drop l.known-index l.clause) l.literal ≡ has l.clause l.literal
