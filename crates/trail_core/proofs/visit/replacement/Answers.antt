use Rattle.std.proofs.Common.{◌≡◌, true, false, get_or, subst}
use Rattle.clause_base.specs.declared.literal.Lit.{Lit}
use Rattle.clause_base.specs.Literal.{has}
use Rattle.clause_base.specs.Acceptance.{numbered}
use Rattle.trail_core.specs.TrailState.{values_of}
use Rattle.trail_core.proofs.Looks.{has_at, variable_at, others_more, others_all}
use Rattle.trail_core.proofs.visit.replacement.Goals as goal

abbrev none : Lit
none = record { var = 0; negated = false }

pub may_replace-requires : goal.may_replace-requires
may_replace-requires c = variable_at c.args.trail.now.vars c.clause-l-items.result.now c.loop-l.l-index none c.clause-l-items.ensures.within c.loop-l-test.true

pub returns-then-may_replace-clause-found : goal.returns-then-may_replace-clause-found
returns-then-may_replace-clause-found c = record {
  member = subst (λ xs. has xs (get_or c.clause-l-items.result.now c.loop-l.l-index none) ≡ true) c.clause-l-items.ensures.value (has_at c.clause-l-items.result.now c.loop-l.l-index none c.loop-l-test.true);
  apart = c.may_replace.ensures.apart c.if-may_replace.true;
  not_false = c.may_replace.ensures.not_false c.if-may_replace.true;
}

pub loop-l-preserved : goal.loop-l-preserved
loop-l-preserved c = others_more (values_of c.args.trail.now.entries) c.clause-l-items.result.now c.loop-l.l-index none c.args.other.var c.loop-l-test.true c.loop-l.invariant (c.may_replace.ensures.no c.if-may_replace.false)

pub returns-clause-none : goal.returns-clause-none
returns-clause-none c = others_all (values_of c.args.trail.now.entries) (numbered c.args.trail.now.clauses c.args.number) c.clause-l-items.result.now c.loop-l.l-index c.args.other.var c.clause-l-items.ensures.value c.loop-l-test.false c.loop-l.invariant
