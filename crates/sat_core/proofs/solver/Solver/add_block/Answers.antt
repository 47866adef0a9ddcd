use Rattle.std.proofs.Common.{◌∙◌, sym, ap, subst}
use Rattle.std.proofs.lemmas.Result.{on_ok_weaker}
use Rattle.clause_base.specs.Literal.{IsWithin, has_distinct_variables}
use Rattle.sat_core.specs.SolverState.{SolverState}
use Rattle.sat_core.specs.Calls.{with_block}
use Rattle.sat_core.proofs.SolverLemmas.{IsReady-blocked, solver_of, seen_pushed}
use Rattle.sat_core.proofs.solver.Solver.add_block.Goals as goal

pub invariant_of-self : goal.invariant_of-self
invariant_of-self c = (
  IsReady-blocked c.self.inside.engine c.self.inside.log c.push.new.self c.literals.result.now c.push.result c.self.invariant.0
      (subst (IsWithin c.self.inside.engine.trail.vars) (sym c.literals.ensures.value) (subst (λ n. IsWithin n c.args.block.now) (sym (ap (λ (s : SolverState). s.vars) c.self.view_is)) c.requires.within))
      (ap has_distinct_variables c.literals.ensures.value ∙ c.literals.ensures.distinct) c.push.ensures.ok c.push.ensures.err,
  c.self.invariant.1,
)

pub returns-clause-ok : goal.returns-clause-ok
returns-clause-ok c = on_ok_weaker c.push.result (λ e. seen_pushed c.self.inside.engine c.self.inside.log c.push.new.self c.self.inside.told _ c.args.self.now c.self.invariant.0 c.self.view_is e ∙ ap (with_block c.args.self.now) c.literals.ensures.value) c.push.ensures.ok

pub returns-clause-solver : goal.returns-clause-solver
returns-clause-solver c =
    solver_of c.self.inside.engine c.push.new.self c.self.inside.told (IsReady-blocked c.self.inside.engine c.self.inside.log c.push.new.self c.literals.result.now c.push.result c.self.invariant.0
    (subst (IsWithin c.self.inside.engine.trail.vars) (sym c.literals.ensures.value) (subst (λ n. IsWithin n c.args.block.now) (sym (ap (λ (s : SolverState). s.vars) c.self.view_is)) c.requires.within))
    (ap has_distinct_variables c.literals.ensures.value ∙ c.literals.ensures.distinct) c.push.ensures.ok c.push.ensures.err)
