use Rattle.std.proofs.Common.{refl, inl, false}
use Rattle.clause_base.specs.declared.literal.Lit.{Lit}
use Rattle.trail_core.proofs.Looks.{variable_at}
use Rattle.sat_core.proofs.Marks.{MarksOthers-kept_at, MarksOthers-more_at}
use Rattle.sat_core.proofs.analysis.mark_others.Goals as goal
use Rattle.sat_core.proofs.analysis.mark_others.Goals.{then-l-skip, else-l-skip}

abbrev none : Lit
none = record { var = 0; negated = false }

pub loop-l-preserved : goal.loop-l-preserved
loop-l-preserved c =
    elim c.if-l-skip.branch [
      | then-l-skip w ↦ MarksOthers-more_at c.args.marked.now.items c.loop-l.marked.items c.if-l-skip.marked.items c.args.literals.now c.loop-l.l-index none c.args.skip c.loop-l-test.true c.loop-l.invariant w.if-l-skip.true (variable_at _ c.args.literals.now c.loop-l.l-index none c.requires c.loop-l-test.true) (rw w.marked-is refl)
      | else-l-skip w ↦ MarksOthers-kept_at c.args.marked.now.items c.loop-l.marked.items c.if-l-skip.marked.items c.args.literals.now c.loop-l.l-index none c.args.skip c.loop-l-test.true c.loop-l.invariant (inl w.if-l-skip.false) (rw w.marked-is refl)
    ]
