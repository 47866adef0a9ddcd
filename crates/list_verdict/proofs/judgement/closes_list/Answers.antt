use Rattle.std.proofs.Common.{◌+◌, ◌<◌, ◌^◌, arith, subst, sym}
use Rattle.clause_base.specs.declared.form.Form.{Form}
use Rattle.card_counter.specs.Places.{starts}
use Rattle.debug_core.specs.Problems.{problem_of}
use Rattle.list_verdict.proofs.Asked.{bound-fits, few-suspects}
use Rattle.list_verdict.proofs.judgement.closes_list.Goals as goal

pub overflow_cast-suspects : goal.overflow_cast-suspects
overflow_cast-suspects c =
    let l = c.args.listed.now in
    let whole : Form = record { vars = l.plan.now.vars; clauses = l.plan.now.clauses } in
    omega (arith, few-suspects (problem_of l.question.now) whole c.requires.problem c.requires.form, c.requires.form.few_variables)

pub closes-requires : goal.closes-requires
closes-requires c =
    let l = c.args.listed.now in
    let whole : Form = record { vars = l.plan.now.vars; clauses = l.plan.now.clauses } in
    subst (λ n. n + 1 + starts l.question.now.k (n + 1) < 2 ^ 32) (sym c.len-suspects.ensures)
    (bound-fits (problem_of l.question.now) whole c.requires.problem c.requires.form)
