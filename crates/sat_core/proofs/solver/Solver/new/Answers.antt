use Rattle.std.proofs.Common.{◌∙◌, None, sym, refl, rules}
use Rattle.sat_core.proofs.SolverLemmas.{IsReady-begins, solver_of}
use Rattle.sat_core.proofs.solver.Solver.new.Goals as goal

pub invariant_of-result : goal.invariant_of-result
invariant_of-result c = (
  IsReady-begins _ c.new-5.result c.args.form.now.vars c.args.form.now.clauses c.args.preferred.now c.in_ok-trail_of.ensures.state c.in_ok-trail_of.ensures.trail c.in_ok-new.ensures.empty c.in_ok-new.ensures.size c.len.ensures.value refl (search rules) (sym c.in_ok-vec.field-0.ok.0 ∙ c.in_ok-vec.ensures.len) c.new-5.ensures c.requires.within c.len.ensures.distinct c.requires.preferred c.requires.few,
  tt,
)

pub returns-clause-solver : goal.returns-clause-solver
returns-clause-solver c =
    solver_of record { trail = c.in_ok-trail_of.field-0; analysis = c.in_ok-new.field-0; preferred = c.in_ok-to_vec.field-0; chosen = c.new-2.result; form_len = c.len.result; known = 0; model = c.in_ok-vec.field-0; ranking = c.in_ok-new-2.field-0; restarts = c.new-4.result } c.new-5.result None
    (IsReady-begins _ c.new-5.result c.args.form.now.vars c.args.form.now.clauses c.args.preferred.now c.in_ok-trail_of.ensures.state c.in_ok-trail_of.ensures.trail c.in_ok-new.ensures.empty c.in_ok-new.ensures.size c.len.ensures.value refl (search rules) (sym c.in_ok-vec.field-0.ok.0 ∙ c.in_ok-vec.ensures.len) c.new-5.ensures c.requires.within c.len.ensures.distinct c.requires.preferred c.requires.few)
