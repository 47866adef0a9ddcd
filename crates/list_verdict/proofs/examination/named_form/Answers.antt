use Rattle.list_verdict.proofs.NamedForms.{made-named}
use Rattle.list_verdict.proofs.examination.named_form.Goals as goal

pub returns : goal.returns
returns c =
    let l = c.args.listed.now in
    made-named l.plan.now l.log.now c.in_ok-marks.marks c.most_clauses-most.result c.named-2.result c.in_ok-marks.ensures.long
    c.in_ok-marks.ensures.marks c.named-2.ensures.variables c.named-2.ensures.clauses
