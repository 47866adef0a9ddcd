use Rattle.std.proofs.Common.{◌+◌, ◌∙◌, false, get_or, sym}
use Rattle.std.proofs.lemmas.List.{get_or_default}
use Rattle.clause_base.specs.declared.literal.Lit.{Lit}
use Rattle.front_cert.proofs.Reaching.{reach-ended, reach-next}
use Rattle.front_cert.proofs.reach.reach_of.Goals as goal

abbrev none : Lit
none = record { var = 0; negated = false }

pub loop-literal-preserved : goal.loop-literal-preserved
loop-literal-preserved c =
    let clause = c.args.clause.now in
    let place = c.loop-literal.literal-index in
    reach-next c.args.target.now.members.now c.args.target.now.more clause place (get_or clause place none) c.loop-literal.reach c.with-reach.result c.loop-literal-test.true
    (get_or_default clause place (get_or clause place none) none c.loop-literal-test.true) c.loop-literal.invariant c.with-reach.ensures

pub returns-then-is_nothing : goal.returns-then-is_nothing
returns-then-is_nothing c =
    let clause = c.args.clause.now in
    let place = c.loop-literal.literal-index in
    reach-ended c.args.target.now.members.now c.args.target.now.more clause (place + 1) c.with-reach.result (sym c.is_nothing.ensures ∙ c.if-is_nothing.true)
    (reach-next c.args.target.now.members.now c.args.target.now.more clause place (get_or clause place none) c.loop-literal.reach c.with-reach.result c.loop-literal-test.true
    (get_or_default clause place (get_or clause place none) none c.loop-literal-test.true) c.loop-literal.invariant c.with-reach.ensures)
