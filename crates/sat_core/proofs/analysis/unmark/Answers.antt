use Rattle.std.proofs.Common.{false, refl}
use Rattle.clause_base.specs.declared.literal.Lit.{Lit}
use Rattle.trail_core.proofs.Looks.{variable_at}
use Rattle.sat_core.proofs.Unmarking.{Unmarks-more}
use Rattle.sat_core.proofs.analysis.unmark.Goals as goal

abbrev none : Lit
none = record { var = 0; negated = false }

pub loop-l-preserved : goal.loop-l-preserved
loop-l-preserved c = Unmarks-more c.args.marked.now.items c.loop-l.marked.items _ c.args.literals.now c.loop-l.l-index none c.loop-l-test.true c.loop-l.invariant (variable_at _ c.args.literals.now c.loop-l.l-index none c.requires c.loop-l-test.true) refl
