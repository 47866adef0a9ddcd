use Rattle.std.proofs.Common.{sym, subst, Ok}
use Rattle.std.proofs.lemmas.Result.{err_from_is_err_and}
use Rattle.sat_core.specs.Outcome.{Grows}
use Rattle.sat_core.specs.Searching.{form_of, GoesOn, closings_at}
use Rattle.sat_core.proofs.SearchLemmas.{closings_some, closings_failed, Grows-step, clauses_fit-step, goes_on, Keeps-trans}
use Rattle.sat_core.proofs.engine.Engine.search.Goals as goal

pub returns-in_err-verdict-clause-grows : goal.returns-in_err-verdict-clause-grows
returns-in_err-verdict-clause-grows c =
    let p = err_from_is_err_and c.from_residual-in_err-verdict.result c.from_residual-in_err-verdict.ensures.1 in
    subst (Grows (form_of c.args.self.now) c.args.log.now c.advance.new.log c.args.budget.now c.advance.new.budget) (sym (closings_failed c.from_residual-in_err-verdict.result p.0 p.1))
    (Grows-step c.args.self.now c.loop-verdict.self c.args.log.now c.loop-verdict.log c.advance.new.log c.args.budget.now c.loop-verdict.budget c.advance.new.budget 0 c.loop-verdict.invariant.keeps c.loop-verdict.invariant.grows c.in_err-verdict.ensures.grows)

pub returns-in-Some-clause-grows : goal.returns-in-Some-clause-grows
returns-in-Some-clause-grows c =
    subst (Grows (form_of c.args.self.now) c.args.log.now c.advance.new.log c.args.budget.now c.advance.new.budget) (closings_some c.in_ok-verdict.field-0 c.in-Some.verdict c.in-Some.is)
    (Grows-step c.args.self.now c.loop-verdict.self c.args.log.now c.loop-verdict.log c.advance.new.log c.args.budget.now c.loop-verdict.budget c.advance.new.budget _ c.loop-verdict.invariant.keeps c.loop-verdict.invariant.grows c.in_ok-verdict.ensures.grows)

pub loop-verdict-preserved : goal.loop-verdict-preserved
loop-verdict-preserved c =
    let g : GoesOn c.loop-verdict.self c.advance.new.self c.advance.new.log c.args.assume.now c.loop-verdict.budget c.advance.new.budget =
    goes_on c.loop-verdict.self c.advance.new.self c.advance.new.log c.args.assume.now c.loop-verdict.budget c.advance.new.budget c.in_ok-verdict.field-0 c.in_default.is c.in_ok-verdict.ensures.gives in
    let s : Grows (form_of c.loop-verdict.self) c.loop-verdict.log c.advance.new.log c.loop-verdict.budget c.advance.new.budget 0 =
    subst (λ o. Grows (form_of c.loop-verdict.self) c.loop-verdict.log c.advance.new.log c.loop-verdict.budget c.advance.new.budget (closings_at (Ok o))) c.in_default.is c.in_ok-verdict.ensures.grows in
    record {
      under_way = g.under_way;
      clauses_fit = clauses_fit-step c.loop-verdict.self c.advance.new.self c.loop-verdict.log c.advance.new.log c.loop-verdict.budget c.advance.new.budget c.advance.ensures.keeps s c.loop-verdict.invariant.clauses_fit;
      some = g.some;
      keeps = Keeps-trans c.args.self.now c.loop-verdict.self c.advance.new.self c.loop-verdict.invariant.keeps c.advance.ensures.keeps;
      grows = Grows-step c.args.self.now c.loop-verdict.self c.args.log.now c.loop-verdict.log c.advance.new.log c.args.budget.now c.loop-verdict.budget c.advance.new.budget 0 c.loop-verdict.invariant.keeps c.loop-verdict.invariant.grows s;
    }
