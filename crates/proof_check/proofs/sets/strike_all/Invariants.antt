use Rattle.std.proofs.Common.{◌≡◌, take}
use Rattle.proof_check.specs.Marks.{marked, held, AreStampedUpTo}
use Rattle.proof_check.proofs.Struck.{Striking}
use Rattle.proof_check.proofs.sets.strike_all.Given as goal

abbrev pub invariant-loop-literal : goal.invariant-loop-literal
invariant-loop-literal l = record {
  striking : Striking (marked l.stamp l.initial.marks) (take l.literal-index l.clause) (marked l.stamp l.marks);
  count : l.left ≡ held l.stamp l.marks;
  stamps : AreStampedUpTo l.stamp l.initial.marks → AreStampedUpTo l.stamp l.marks;
}
