use Rattle.std.proofs.Common.{◌≡◌, get_or, take}
use Rattle.clause_base.specs.Steps.{step_at}
use Rattle.clause_base.specs.Acceptance.{clauses_of}
use Rattle.proof_check.specs.Marks.{marked, held, AreStampedUpTo}
use Rattle.proof_check.proofs.Chained.{Chaining}
use Rattle.proof_check.proofs.chain.is_given.Given as goal

abbrev pub invariant-loop-number : goal.invariant-loop-number
invariant-loop-number l = record {
  chaining : Chaining (clauses_of l.form (take l.place l.log)) (get_or (step_at l.log l.place).chain 0 0) l.rest l.number-index (step_at l.log l.place).clause (marked l.stamp l.marks);
  count : l.count ≡ held l.stamp l.marks;
  stamps : AreStampedUpTo l.stamp l.marks;
}
