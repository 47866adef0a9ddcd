use Rattle.std.proofs.Common.{◌≡◌, ◌∙◌, ◌++◌, ◌∷◌, [], sym, subst, ap}
use Rattle.std.specs.Result.{OnOk}
use Rattle.std.proofs.lemmas.Result.{on_ok_weaker}
use Rattle.clause_base.specs.declared.log.Step.{Step}
use Rattle.clause_base.specs.Literal.{IsWithin, has_distinct_variables}
use Rattle.clause_base.specs.Steps.{step_at}
use Rattle.clause_base.specs.Acceptance.{IsAcceptedStep}
use Rattle.sat_core.specs.SolverState.{SolverState, blocks_of}
use Rattle.sat_core.specs.Searching.{IsReady}
use Rattle.sat_core.proofs.SolverLemmas.{solver_of, seen_pushed}
use Rattle.sat_core.proofs.Importing.{step_is, IsReady-taken}
use Rattle.sat_core.proofs.solver.Solver.take_over.Goals as goal

pushed : (c : goal.After-push) → OnOk c.push.result (c.push.new.self ≡ c.self.inside.log ++ step_at c.args.log.now c.args.place ∷ [])
pushed c =
    on_ok_weaker c.push.result (λ e. e ∙ ap (λ (s : Step). c.self.inside.log ++ s ∷ []) (step_is (step_at c.args.log.now c.args.place) c.kind.result c.clause.result.now c.chain.result.now c.kind.ensures c.clause.ensures.value c.chain.ensures)) c.push.ensures.ok

ready : (c : goal.After-push) → IsReady c.self.inside.engine c.push.new.self
ready c =
    IsReady-taken c.self.inside.engine c.self.inside.log c.push.new.self (step_at c.args.log.now c.args.place) c.push.result c.self.invariant.0
    (λ n. subst (λ (s : SolverState). IsAcceptedStep s.form (blocks_of s.log) s.log (step_at c.args.log.now c.args.place)) (sym c.self.view_is) (c.requires.accepted n))
    (subst (λ (s : SolverState). IsWithin s.vars (step_at c.args.log.now c.args.place).clause) (sym c.self.view_is) c.requires.within)
    (ap has_distinct_variables (sym c.clause.ensures.value) ∙ c.clause.ensures.distinct)
    (pushed c)
    c.push.ensures.err

pub invariant_of-self : goal.invariant_of-self
invariant_of-self c = (ready c, c.self.invariant.1)

pub returns-clause-ok : goal.returns-clause-ok
returns-clause-ok c = on_ok_weaker c.push.result (λ e. seen_pushed c.self.inside.engine c.self.inside.log c.push.new.self c.self.inside.told (step_at c.args.log.now c.args.place) c.args.self.now c.self.invariant.0 c.self.view_is e) (pushed c)

pub returns-clause-solver : goal.returns-clause-solver
returns-clause-solver c = solver_of c.self.inside.engine c.push.new.self c.self.inside.told (ready c)
