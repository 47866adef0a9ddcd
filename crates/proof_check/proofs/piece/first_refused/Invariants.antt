use Rattle.std.proofs.Common.{◌≡◌, take}
use Rattle.clause_base.specs.Acceptance.{clauses_of, blocks_in}
use Rattle.proof_check.specs.Claims.{AreAccepted}
use Rattle.proof_check.specs.Marks.{AreStampedUpTo, AreInTable}
use Rattle.proof_check.proofs.piece.first_refused.Given as goal

abbrev pub invariant-loop-place : goal.invariant-loop-place
invariant-loop-place l = record {
  before : AreAccepted l.claim.form.now.clauses l.claim.blocks.now l.claim.log.now l.fn.piece.from l.place;
  count : l.seen ≡ blocks_in (take l.place l.claim.log.now);
  stamps : AreStampedUpTo l.place l.marks;
  in_table : AreInTable l.marks (clauses_of l.claim.form.now.clauses (take l.place l.claim.log.now));
}
