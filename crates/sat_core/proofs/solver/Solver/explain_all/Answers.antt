use Rattle.sat_core.proofs.Explaining.{explained_reasons, explained_all}
use Rattle.sat_core.proofs.solver.Solver.explain_all.Goals as goal

pub explain_all-requires-clause-forced : goal.explain_all-requires-clause-forced
explain_all-requires-clause-forced c = explained_reasons c.self.inside.engine c.self.inside.log c.self.inside.told c.args.self.now c.args.vars.now c.self.view_is c.self.invariant.0 c.self.invariant.1 c.requires.may

pub returns : goal.returns
returns c = record {
  explains = explained_all c.self.inside.engine c.self.inside.log c.self.inside.told c.args.self.now c.args.vars.now c.explain_all.result c.self.view_is c.self.invariant.0 c.self.invariant.1 c.requires.may c.explain_all.ensures;
}
