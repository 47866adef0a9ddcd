use Rattle.std.proofs.Common.{◌<◌, ◌∙◌, ap, length, arith}
use Rattle.std.proofs.lemmas.Grind.{common_steps}
use Rattle.clause_form.specs.Clauses.{form_clauses, literals_in, selector_clauses}
use Rattle.clause_form.specs.Fields.{whole_of}
use Rattle.clause_form.specs.Limits.{IsRefused}
use Rattle.clause_form.proofs.WalkSteps.{refused-more}
use Rattle.clause_form.specs.Named.{named_from}
use Rattle.clause_form.proofs.NamedSteps.{named-whole}
use Rattle.clause_form.proofs.FormSteps.{can-begin, counter-count, whole-is}
use Rattle.clause_form.proofs.clauses.form.Goals as goal

pub returns-in_err-beginning-clause-err : goal.returns-in_err-beginning-clause-err
returns-in_err-beginning-clause-err c =
    let groups = c.args.groups.now in
    let part = literals_in (selector_clauses (length groups) c.args.k) in
    let whole = literals_in (form_clauses c.args.u.now groups c.args.k) in
    let more : IsRefused c.in_err-beginning.field-0.0 (64000000 < whole) =
    refused-more c.in_err-beginning.field-0.0 part whole (counter-count c.args.u.now groups c.args.k) c.in_err-beginning.ensures.err in
    grind (arith, common_steps, more)

pub check-requires : goal.check-requires
check-requires c =
    can-begin c.args.u.now c.args.groups.now c.args.k c.in_ok-beginning.beginning c.in_ok-beginning.ensures.ok c.requires

pub returns-in_err-check-clause-err : goal.returns-in_err-check-clause-err
returns-in_err-check-clause-err c =
    let groups = c.args.groups.now in
    let b = c.in_ok-beginning.beginning in
    let whole = literals_in (form_clauses c.args.u.now groups c.args.k) in
    let same = ap literals_in (whole-is c.args.u.now groups c.args.k b c.in_ok-beginning.ensures.ok) in
    let more : IsRefused c.in_err-check.field-0.0 (64000000 < whole) =
    refused-more c.in_err-check.field-0.0 (literals_in (whole_of b c.args.u.now)) whole (omega (arith, same)) c.in_err-check.ensures.err in
    grind (arith, common_steps, more)

pub clauses-requires : goal.clauses-requires
clauses-requires c =
    can-begin c.args.u.now c.args.groups.now c.args.k c.in_ok-beginning.beginning c.in_ok-beginning.ensures.ok c.requires

pub returns-clause-clauses : goal.returns-clause-clauses
returns-clause-clauses c =
    let b = c.in_ok-beginning.beginning in
    let whole = whole_of b c.args.u.now in
    c.in_ok-clauses.ensures.ok ∙ ap (λ named. named_from named 0 whole) c.new-2.ensures ∙ named-whole 0 whole
    ∙ whole-is c.args.u.now c.args.groups.now c.args.k b c.in_ok-beginning.ensures.ok

pub returns-clause-within : goal.returns-clause-within
returns-clause-within c =
    let b = c.in_ok-beginning.beginning in
    let whole = whole_of b c.args.u.now in
    omega (
      arith,
      ap literals_in
          (c.in_ok-clauses.ensures.ok ∙ ap (λ named. named_from named 0 whole) c.new-2.ensures ∙ named-whole 0 whole),
      c.in_ok-check.ensures.ok,
    )
