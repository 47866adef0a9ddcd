use Rattle.std.proofs.Common.{◌≤◌, ◌∙◌, subst, sym}
use Rattle.clause_base.specs.declared.form.Form.{Form}
use Rattle.clause_base.specs.Literal.{AreWithin}
use Rattle.list_verdict.specs.Claims.{claim_of}
use Rattle.debug_core.specs.Problems.{problem_of, suspect_count}
use Rattle.list_verdict.proofs.Asked.{few-suspects, form-within}
use Rattle.list_verdict.proofs.Examined.{blocks-within}
use Rattle.list_verdict.proofs.NamedForms.{log-says}
use Rattle.list_verdict.proofs.Ordered.{ascending}
use Rattle.list_verdict.proofs.examination.first_refused.Goals as goal

pub blocks_of-requires : goal.blocks_of-requires
blocks_of-requires g c = (ascending (claim_of c.args.listed.now) c.requires.in_order).each

pub check_log_parallel-requires-clause-form_within : goal.check_log_parallel-requires-clause-form_within
check_log_parallel-requires-clause-form_within g c = λ _ _.
    let l = c.args.listed.now in
    let whole : Form = record { vars = l.plan.now.vars; clauses = l.plan.now.clauses } in
    c.in_ok-form.ensures.within (form-within (problem_of l.question.now) whole c.requires.can.problem c.requires.can.form)

pub check_log_parallel-requires-clause-blocks_within : goal.check_log_parallel-requires-clause-blocks_within
check_log_parallel-requires-clause-blocks_within g c = λ _ _.
    let l = c.args.listed.now in
    let whole : Form = record { vars = l.plan.now.vars; clauses = l.plan.now.clauses } in
    subst (AreWithin c.in_ok-form.form.vars) (sym (c.deref.ensures.value ∙ c.in_ok-blocks.ensures))
    (blocks-within (claim_of l) c.in_ok-form.form.vars
    (subst (λ n. suspect_count (problem_of l.question.now) ≤ n) (sym c.in_ok-form.ensures.variables)
    (few-suspects (problem_of l.question.now) whole c.requires.can.problem c.requires.can.form)) c.requires.in_order)

pub returns : goal.returns
returns g c =
    log-says (claim_of c.args.listed.now) c.in_ok-form.form.clauses c.deref.result.now c.check_log_parallel.result
    c.in_ok-form.ensures.agree c.len-clauses.ensures.distinct c.len-steps.ensures.distinct
    (c.deref.ensures.value ∙ c.in_ok-blocks.ensures) c.check_log_parallel.ensures.accepted c.check_log_parallel.ensures.least
