use Rattle.std.specs.Prelude.{string_bytes}
use Rattle.report_doc.proofs.Sent.{report_written}
use Rattle.report_doc.proofs.write.json_of.Goals as goal

pub returns-in-Ok-clause-json : goal.returns-in-Ok-clause-json
returns-in-Ok-clause-json c =
    let sent = c.in-Ok.ensures.events in
    report_written c.args.r.now sent.0 (string_bytes c.in-Ok.json) sent.1.0 sent.2
