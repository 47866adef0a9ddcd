use Rattle.std.proofs.Common.{◌≡◌, ◌+◌, ◌≤◌, ◌∙◌, None, Ok, length, ap, sym, subst, arith}
use Rattle.std.proofs.lemmas.Result.{err_from_is_err_and}
use Rattle.sat_core.specs.SolverState.{SolverState}
use Rattle.sat_core.specs.Outcome.{Searches, LearnedBeforeLast, closings, told_by}
use Rattle.sat_core.specs.Searching.{form_of, state_of, seen_of}
use Rattle.sat_core.proofs.Assumptions.{few_literals}
use Rattle.sat_core.proofs.Growing.{learned_before_answer}
use Rattle.sat_core.proofs.SearchLemmas.{closings_failed}
use Rattle.sat_core.proofs.SolverLemmas.{Searches-from, solver_of, searches_none, learned_none, says_seen, told_seen, none_seen}
use Rattle.sat_core.proofs.solver.Solver.solve.Goals as goal

pub search-requires-clause-small : goal.search-requires-clause-small
search-requires-clause-small c =
    let few : length c.args.assume.now ≤ c.args.self.now.vars + 1 = few_literals c.args.self.now.vars c.args.assume.now c.requires.within c.requires.distinct in
    let vars : c.self.inside.engine.trail.vars ≡ c.args.self.now.vars = ap (λ (s : SolverState). s.vars) c.self.view_is in
    omega (arith, few, vars, c.self.invariant.0.fit.trail.small)

pub returns-in_err-told-clause-searches : goal.returns-in_err-told-clause-searches
returns-in_err-told-clause-searches c =
    let p = err_from_is_err_and c.from_residual.result c.from_residual.ensures.1 in
    subst (Searches c.args.self.now (seen_of c.self.inside.engine c.self.inside.log None) c.args.budget.now c.args.budget.now) (sym (closings_failed c.from_residual.result p.0 p.1))
    (searches_none c.self.inside.engine c.self.inside.log c.self.inside.told c.args.self.now c.args.budget.now c.self.view_is)

pub returns-in_err-told-clause-solver : goal.returns-in_err-told-clause-solver
returns-in_err-told-clause-solver c = solver_of c.self.inside.engine c.self.inside.log None c.self.invariant.0

pub returns-in_err-told-clause-learned : goal.returns-in_err-told-clause-learned
returns-in_err-told-clause-learned c = learned_none c.self.inside.engine c.self.inside.log c.self.inside.told c.args.self.now c.self.view_is

pub returns-in_err-told-clause-told : goal.returns-in_err-told-clause-told
returns-in_err-told-clause-told c =
    let p = err_from_is_err_and c.from_residual.result c.from_residual.ensures.1 in
    none_seen c.self.inside.engine c.self.inside.log ∙ sym (ap (told_by c.args.assume.now) p.1)

pub returns-in_err-verdict-clause-searches : goal.returns-in_err-verdict-clause-searches
returns-in_err-verdict-clause-searches c =
    let p = err_from_is_err_and c.from_residual-in_err-verdict.result c.from_residual-in_err-verdict.ensures.1 in
    subst (Searches c.args.self.now (seen_of c.search.new.self c.search.new.log None) c.args.budget.now c.search.new.budget) (sym (closings_failed c.from_residual-in_err-verdict.result p.0 p.1))
    (subst (λ s. Searches s (seen_of c.search.new.self c.search.new.log None) c.args.budget.now c.search.new.budget 0) c.self.view_is
    (Searches-from c.self.inside.engine c.search.new.self c.self.inside.log c.search.new.log c.self.inside.told None c.args.budget.now c.search.new.budget 0 c.search.ensures.keeps c.in_err-verdict.ensures.grows))

pub returns-in_err-verdict-clause-solver : goal.returns-in_err-verdict-clause-solver
returns-in_err-verdict-clause-solver c = solver_of c.search.new.self c.search.new.log None c.search.ensures.ready

pub returns-in_err-verdict-clause-learned : goal.returns-in_err-verdict-clause-learned
returns-in_err-verdict-clause-learned c =
    subst (λ (s : SolverState). LearnedBeforeLast s.log c.search.new.log) c.self.view_is
    (learned_before_answer (form_of c.self.inside.engine) c.self.inside.log (state_of c.search.new.self c.search.new.log) c.args.assume.now c.args.budget.now c.search.new.budget c.search.result c.search.ensures.grows c.search.ensures.says)

pub returns-in_err-verdict-clause-told : goal.returns-in_err-verdict-clause-told
returns-in_err-verdict-clause-told c =
    let p = err_from_is_err_and c.from_residual-in_err-verdict.result c.from_residual-in_err-verdict.ensures.1 in
    none_seen c.search.new.self c.search.new.log ∙ sym (ap (told_by c.args.assume.now) p.1)

pub returns-clause-searches : goal.returns-clause-searches
returns-clause-searches c =
    subst (λ s. Searches s (seen_of c.search.new.self c.search.new.log c.if_model.result) c.args.budget.now c.search.new.budget (closings (Ok c.in_ok-verdict.verdict))) c.self.view_is
    (Searches-from c.self.inside.engine c.search.new.self c.self.inside.log c.search.new.log c.self.inside.told c.if_model.result c.args.budget.now c.search.new.budget (closings (Ok c.in_ok-verdict.verdict)) c.search.ensures.keeps c.in_ok-verdict.ensures.grows)

pub returns-clause-solver : goal.returns-clause-solver
returns-clause-solver c = solver_of c.search.new.self c.search.new.log c.if_model.result c.search.ensures.ready

pub returns-clause-says : goal.returns-clause-says
returns-clause-says c = says_seen c.search.new.self c.search.new.log c.if_model.result c.args.assume.now c.search.new.budget c.in_ok-verdict.verdict c.in_ok-verdict.ensures.says

pub returns-clause-learned : goal.returns-clause-learned
returns-clause-learned c =
    subst (λ (s : SolverState). LearnedBeforeLast s.log c.search.new.log) c.self.view_is
    (learned_before_answer (form_of c.self.inside.engine) c.self.inside.log (state_of c.search.new.self c.search.new.log) c.args.assume.now c.args.budget.now c.search.new.budget c.search.result c.search.ensures.grows c.search.ensures.says)

pub returns-clause-told : goal.returns-clause-told
returns-clause-told c =
    told_seen c.search.new.self c.search.new.log c.if_model.result c.args.assume.now c.in_ok-verdict.verdict c.in_ok-verdict.ensures.stands
    (c.if_model.ensures ∙ ap (λ a. told_by a (Ok c.in_ok-verdict.verdict)) c.in_ok-told.ensures)
