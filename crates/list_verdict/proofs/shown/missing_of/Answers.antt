use Rattle.std.proofs.Common.{arith, refl}
use Rattle.clause_base.specs.declared.form.Form.{Form}
use Rattle.debug_core.specs.Problems.{problem_of}
use Rattle.list_verdict.specs.Claims.{claim_of}
use Rattle.list_verdict.proofs.Asked.{few-suspects}
use Rattle.list_verdict.proofs.Fronted.{may-be-shown, says-missing}
use Rattle.list_verdict.proofs.shown.missing_of.Goals as goal

pub overflow_cast-suspects : goal.overflow_cast-suspects
overflow_cast-suspects g c =
    let l = c.args.listed.now in
    let whole : Form = record { vars = l.plan.now.vars; clauses = l.plan.now.clauses } in
    omega (arith, few-suspects (problem_of l.question.now) whole c.requires.can.problem c.requires.can.form, c.requires.can.form.few_variables)

pub shows-requires-clause-may : goal.shows-requires-clause-may
shows-requires-clause-may g c = λ _ _.
    may-be-shown c.args.listed.now _ c.requires.can c.requires.in_order c.last_members.ensures c.len-suspects.ensures refl refl

pub returns : goal.returns
returns g c =
    says-missing (claim_of c.args.listed.now) c.len-suspects.result c.last_members.result.now c.len-suspects.ensures c.last_members.ensures
    c.shows.result c.shows.ensures
