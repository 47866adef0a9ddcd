use Rattle.std.proofs.Common.{◌≡◌, take}
use Rattle.proof_check.specs.Marks.{marked, held, AreStampedUpTo}
use Rattle.proof_check.proofs.Merged.{Merging}
use Rattle.proof_check.proofs.resolve.resolve.Given as goal

abbrev pub invariant-loop-literal : goal.invariant-loop-literal
invariant-loop-literal l = record {
  merging : Merging (marked l.stamp l.initial.marks) (take l.literal-index l.clause) l.merge.clash (marked l.stamp l.marks);
  count : l.merge.held ≡ held l.stamp l.marks;
  stamps : AreStampedUpTo l.stamp l.initial.marks → AreStampedUpTo l.stamp l.marks;
}
