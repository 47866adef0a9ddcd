use Rattle.std.proofs.Common.{rules, get_or, length, refl}
use Rattle.std.proofs.lemmas.Result.{on_ok_weaker}
use Rattle.report_doc.specs.Json.{number_data}
use Rattle.report_doc.specs.Shape.{IsWord}
use Rattle.report_doc.proofs.Sent.{each-more, list_sent}
use Rattle.report_doc.proofs.Ascii.{All-next}
use Rattle.report_doc.proofs.write.send_numbers.Goals as goal

pub loop-number-preserved : goal.loop-number-preserved
loop-number-preserved g c =
    let sent = each-more number_data c.args.numbers.now c.loop-number.number-index 0 _ _ _ c.loop-number-test.true c.loop-number.invariant.0 c.in_ok-send_number.ensures in
    let facts = All-next IsWord c.args.numbers.now c.loop-number.number-index 0 (get_or c.args.numbers.now c.loop-number.number-index 0) c.loop-number-test.true refl c.loop-number.invariant.1 (search rules) in
    (sent, facts)

pub returns-clause-sends : goal.returns-clause-sends
returns-clause-sends g c = on_ok_weaker c.end_seq.result (list_sent number_data c.args.numbers.now c.loop-number.number-index (length c.args.numbers.now) _ _ _ _ refl (search rules) c.in_ok-begin_seq.ensures c.loop-number.invariant.0) c.end_seq.ensures
