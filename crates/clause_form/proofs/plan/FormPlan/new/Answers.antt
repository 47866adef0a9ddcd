use Rattle.std.proofs.Common.{◌<◌, ap, length, arith}
use Rattle.std.proofs.lemmas.Grind.{common_steps}
use Rattle.clause_form.specs.Clauses.{form_clauses, literals_in, selector_clauses}
use Rattle.clause_form.specs.Fields.{whole_of}
use Rattle.clause_form.specs.Limits.{IsRefused}
use Rattle.clause_form.proofs.WalkSteps.{refused-more}
use Rattle.clause_form.proofs.FormSteps.{can-begin, counter-count, whole-is}
use Rattle.clause_form.proofs.plan.FormPlan.new.Goals as goal

pub returns-in_err-beginning-clause-err : goal.returns-in_err-beginning-clause-err
returns-in_err-beginning-clause-err c =
    let groups = c.args.groups.now in
    let part = literals_in (selector_clauses (length groups) c.args.k) in
    let whole = literals_in (form_clauses c.args.unrolled groups c.args.k) in
    let more : IsRefused c.in_err-beginning.field-0.0 (64000000 < whole) =
    refused-more c.in_err-beginning.field-0.0 part whole (counter-count c.args.unrolled groups c.args.k) c.in_err-beginning.ensures.err in
    grind (arith, common_steps, more)

pub check-requires : goal.check-requires
check-requires c =
    can-begin c.args.unrolled c.args.groups.now c.args.k c.in_ok-beginning.beginning c.in_ok-beginning.ensures.ok c.requires

pub returns-in_err-check-clause-err : goal.returns-in_err-check-clause-err
returns-in_err-check-clause-err c =
    let groups = c.args.groups.now in
    let b = c.in_ok-beginning.beginning in
    let whole = literals_in (form_clauses c.args.unrolled groups c.args.k) in
    let same = ap literals_in (whole-is c.args.unrolled groups c.args.k b c.in_ok-beginning.ensures.ok) in
    let more : IsRefused c.in_err-check.field-0.0 (64000000 < whole) =
    refused-more c.in_err-check.field-0.0 (literals_in (whole_of b c.args.unrolled)) whole (omega (arith, same)) c.in_err-check.ensures.err in
    grind (arith, common_steps, more)

pub invariant_of-result : goal.invariant_of-result
invariant_of-result c = record {
  can = can-begin c.args.unrolled c.args.groups.now c.args.k c.in_ok-beginning.beginning c.in_ok-beginning.ensures.ok c.requires;
  few = c.in_ok-check.ensures.ok;
}

pub returns-clause-clauses : goal.returns-clause-clauses
returns-clause-clauses c =
    whole-is c.args.unrolled c.args.groups.now c.args.k c.in_ok-beginning.beginning c.in_ok-beginning.ensures.ok
