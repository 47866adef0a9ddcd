use Rattle.std.proofs.Common.{◌∙◌, ◌-◌, take, max, ap, false}
use Rattle.clause_base.specs.declared.literal.Lit.{Lit}
use Rattle.sat_core.proofs.BackLevel.{IsGreatest-more, ord_max_is, whole_lower, greatest_below, greatest_may}
use Rattle.sat_core.proofs.analysis.Analysis.lower_level.Goals as goal

abbrev none : Lit
none = record { var = 0; negated = false }

pub loop-l-preserved : goal.loop-l-preserved
loop-l-preserved c =
    IsGreatest-more c.args.trail.now (take (c.len-others.result - 1) c.as_slice.result.now) c.loop-l.l-index none c.loop-l.level c.max-level.result c.level_of.result c.loop-l-test.true c.loop-l.invariant c.level_of.ensures
    (c.max-level.ensures ∙ (ord_max_is c.loop-l.level c.unwrap_or.result ∙ ap (max c.loop-l.level) c.unwrap_or.ensures))

pub returns-clause-below : goal.returns-clause-below
returns-clause-below c =
    greatest_below c.args.trail.now c.args.self.now.marked.items c.args.self.now.literals.items c.args.self.now.chain.items c.loop-l.level c.requires.learns c.requires.trail c.requires.level
    (whole_lower c.args.trail.now c.args.self.now.marked.items c.args.self.now.literals.items c.as_slice.result.now c.args.self.now.chain.items c.len-others.result c.loop-l.l-index c.loop-l.level c.requires.learns c.as_slice.ensures.value (c.len-others.ensures ∙ c.args.self.now.literals.ok.0) c.loop-l-test.false c.loop-l.invariant)

pub returns-clause-may : goal.returns-clause-may
returns-clause-may c =
    greatest_may c.args.trail.now c.args.self.now.marked.items c.args.self.now.literals.items c.args.self.now.chain.items c.loop-l.level c.requires.learns c.requires.trail c.requires.level
    (whole_lower c.args.trail.now c.args.self.now.marked.items c.args.self.now.literals.items c.as_slice.result.now c.args.self.now.chain.items c.len-others.result c.loop-l.l-index c.loop-l.level c.requires.learns c.as_slice.ensures.value (c.len-others.ensures ∙ c.args.self.now.literals.ok.0) c.loop-l-test.false c.loop-l.invariant)
