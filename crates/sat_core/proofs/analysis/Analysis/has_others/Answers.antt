use Rattle.std.proofs.Common.{false}
use Rattle.clause_base.specs.declared.literal.Lit.{Lit}
use Rattle.sat_core.proofs.Shrinking.{covered_more}
use Rattle.sat_core.proofs.analysis.Analysis.has_others.Goals as goal

abbrev none : Lit
none = record { var = 0; negated = false }

pub loop-other-preserved : goal.loop-other-preserved
loop-other-preserved c =
    covered_more c.args.self.now.marked.items c.args.literals.now c.loop-other.other-index none c.args.skip c.loop-other-test.true c.loop-other.invariant (c.is_covered.ensures c.if-not-is_covered.false)
