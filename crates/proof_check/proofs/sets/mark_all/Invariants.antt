use Rattle.std.proofs.Common.{◌≡◌, take}
use Rattle.clause_base.specs.declared.literal.Lit.{Lit}
use Rattle.clause_base.specs.Literal.{has}
use Rattle.proof_check.specs.Marks.{marked, held, AreStampedUpTo}
use Rattle.proof_check.proofs.sets.mark_all.Given as goal

abbrev pub invariant-loop-literal : goal.invariant-loop-literal
invariant-loop-literal l = record {
  marks : (m : Lit) → marked l.stamp l.marks m ≡ has (take l.literal-index l.clause) m;
  count : held l.stamp l.marks ≡ l.literal-index;
  stamps : AreStampedUpTo l.stamp l.marks;
}
