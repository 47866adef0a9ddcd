use Rattle.std.proofs.Common.{◌≡◌, drop}
use Rattle.clause_form.specs.Clauses.{simplified}
use Rattle.clause_form.proofs.SinkSteps.{behind}
use Rattle.clause_form.proofs.sink.simplify.Given as goal

abbrev pub invariant-loop-i : goal.invariant-loop-i
invariant-loop-i l = simplified l.base l.all ≡ behind l.literals.items (simplified l.base (drop l.i l.all))
