use Rattle.session_reading.specs.Refusals.{OtherRefused, in_log, in_report, other_line, session_differs}
use Rattle.session_reading.proofs.Causes.{said}
use Rattle.session_reading.proofs.Compared.{digests-differ, digests-same}
use Rattle.session_reading.proofs.digests.same_inputs.Goals as goal

pub returns-then-ne-clause-refused : goal.returns-then-ne-clause-refused
returns-then-ne-clause-refused c =
    let d = c.args.digests.now in
    said (OtherRefused d) c.of_made.result 3 (other_line d.report d.inputs)
    (session_differs d.report (in_report (digests-differ d.report d.inputs c.ne.result c.ne.ensures c.if-ne.true)))
    (c.of_made.ensures.says (other_line d.report d.inputs) c.other_line_text.ensures)

pub returns-then-ne-2-clause-refused : goal.returns-then-ne-2-clause-refused
returns-then-ne-2-clause-refused c =
    let d = c.args.digests.now in
    said (OtherRefused d) c.of_made-then-ne-2.result 3 (other_line d.log d.inputs)
    (session_differs d.log
    (in_log (digests-same d.report d.inputs c.ne.result c.ne.ensures c.if-ne.false)
    (digests-differ d.log d.inputs c.ne-2.result c.ne-2.ensures c.if-ne-2.true)))
    (c.of_made-then-ne-2.ensures.says (other_line d.log d.inputs) c.other_line_text-then-ne-2.ensures)
