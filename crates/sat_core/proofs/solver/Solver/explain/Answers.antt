use Rattle.std.proofs.Common.{sym, subst}
use Rattle.sat_core.specs.Explaining.{MayExplain}
use Rattle.sat_core.proofs.Explaining.{explained_reason, explained}
use Rattle.sat_core.proofs.solver.Solver.explain.Goals as goal

pub explain-requires-clause-trail : goal.explain-requires-clause-trail
explain-requires-clause-trail c = c.self.invariant.0.fit.trail

pub explain-requires-clause-variable : goal.explain-requires-clause-variable
explain-requires-clause-variable c = (explained_reason c.self.inside.engine c.self.inside.log c.self.inside.told c.args.var c.self.invariant.0 c.self.invariant.1 (subst (λ s. MayExplain s c.args.var) (sym c.self.view_is) c.requires.may)).variable

pub explain-requires-clause-truth : goal.explain-requires-clause-truth
explain-requires-clause-truth c = (explained_reason c.self.inside.engine c.self.inside.log c.self.inside.told c.args.var c.self.invariant.0 c.self.invariant.1 (subst (λ s. MayExplain s c.args.var) (sym c.self.view_is) c.requires.may)).is_false

pub explain-requires-clause-reason : goal.explain-requires-clause-reason
explain-requires-clause-reason c = (explained_reason c.self.inside.engine c.self.inside.log c.self.inside.told c.args.var c.self.invariant.0 c.self.invariant.1 (subst (λ s. MayExplain s c.args.var) (sym c.self.view_is) c.requires.may)).reason

pub returns : goal.returns
returns c = record {
  explains = explained c.self.inside.engine c.self.inside.log c.self.inside.told c.args.self.now c.args.var c.explain.result c.self.view_is c.self.invariant.0 c.self.invariant.1 c.requires.may c.explain.ensures.kind c.explain.ensures.denies;
}
