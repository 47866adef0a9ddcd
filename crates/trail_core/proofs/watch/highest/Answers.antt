use Rattle.std.proofs.Common.{◌∙◌, take, sym, subst, false}
use Rattle.std.proofs.lemmas.Bool.{false≢true}
use Rattle.std.proofs.lemmas.List.{take_more, take_all}
use Rattle.clause_base.specs.declared.literal.Lit.{Lit}
use Rattle.trail_core.specs.Visits.{HighestGives}
use Rattle.trail_core.proofs.Looks.{variable_at}
use Rattle.trail_core.proofs.watch.highest.Goals as goal

abbrev none : Lit
none = record { var = 0; negated = false }

pub loop-l-init : goal.loop-l-init
loop-l-init c = record { known = tt; highest = λ m h. absurd (false≢true h) }

pub better-found-requires-clause-variable : goal.better-found-requires-clause-variable
better-found-requires-clause-variable c = variable_at c.args.trail.now.vars c.clause-l-items.result.now c.loop-l.l-index none c.clause-l-items.ensures.within c.loop-l-test.true

pub loop-l-preserved : goal.loop-l-preserved
loop-l-preserved c = record {
  known = c.better-found.ensures.known;
  highest = subst (λ part. HighestGives c.args.trail.now.entries part c.args.apart c.better-found.result) (sym (take_more c.clause-l-items.result.now c.loop-l.l-index none c.loop-l-test.true))
      (c.better-found.ensures.more (take c.loop-l.l-index c.clause-l-items.result.now) c.loop-l.invariant.highest);
}

pub returns : goal.returns
returns c = subst (λ part. HighestGives c.args.trail.now.entries part c.args.apart c.loop-l.found) (take_all c.loop-l.l-index c.clause-l-items.result.now c.loop-l-test.false ∙ c.clause-l-items.ensures.value) c.loop-l.invariant.highest
