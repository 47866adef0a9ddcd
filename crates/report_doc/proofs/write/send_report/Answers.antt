use Rattle.std.proofs.lemmas.Result.{on_ok_weaker}
use Rattle.report_doc.proofs.Sent.{report_sent}
use Rattle.report_doc.proofs.write.send_report.Goals as goal

pub returns-clause-sends : goal.returns-clause-sends
returns-clause-sends g c =
    let written = g.S.Serializer.written in
    on_ok_weaker c.end_map.result
    (report_sent c.args.r.now (written c.args.out.now) (written c.begin_map.new.self) (written c.send_ending.new.out) (written c.send_inputs.new.out)
    (written c.send_found.new.out) (written c.send_end.new.out) (written c.end_map.new.self) c.in_ok-begin_map.ensures c.in_ok-send_ending.ensures.sends
    c.in_ok-send_inputs.ensures.sends c.in_ok-send_found.ensures.sends c.in_ok-send_end.ensures.sends)
    c.end_map.ensures
