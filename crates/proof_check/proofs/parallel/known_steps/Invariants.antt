use Rattle.std.proofs.Common.{take}
use Rattle.clause_base.specs.Literal.{AreWithin}
use Rattle.clause_base.specs.Acceptance.{clauses_of}
use Rattle.proof_check.proofs.parallel.known_steps.Given as goal

abbrev pub invariant-loop-place : goal.invariant-loop-place
invariant-loop-place l = AreWithin l.form.vars (clauses_of l.form.clauses (take l.place l.log))
