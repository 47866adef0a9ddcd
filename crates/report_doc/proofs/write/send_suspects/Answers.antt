use Rattle.std.proofs.Common.{sym, rules, length, refl}
use Rattle.std.proofs.lemmas.Result.{on_ok_weaker}
use Rattle.serde.proofs.Events.{WritesEach-more}
use Rattle.serde_json.specs.Events.{SendsValue}
use Rattle.report_doc.specs.Document.{suspect_data}
use Rattle.report_doc.specs.Shape.{IsSuspect}
use Rattle.report_doc.proofs.Sent.{list_sent}
use Rattle.report_doc.proofs.Ascii.{All-next}
use Rattle.report_doc.proofs.write.send_suspects.Goals as goal

pub loop-suspect-preserved : goal.loop-suspect-preserved
loop-suspect-preserved g c =
    let sent = WritesEach-more (λ x. SendsValue (suspect_data x)) c.args.suspects.now c.loop-suspect.suspect-index c.suspect-item.result _ _ _ c.loop-suspect-test.true c.suspect-item.is c.loop-suspect.invariant.0 c.in_ok-send_suspect.ensures.sends in
    let facts = All-next IsSuspect c.args.suspects.now c.loop-suspect.suspect-index c.suspect-item.result c.suspect-item.result c.loop-suspect-test.true (sym c.suspect-item.is) c.loop-suspect.invariant.1 c.in_ok-send_suspect.ensures.suspect in
    (sent, facts)

pub returns-clause-sends : goal.returns-clause-sends
returns-clause-sends g c = on_ok_weaker c.end_seq.result (list_sent suspect_data c.args.suspects.now c.loop-suspect.suspect-index (length c.args.suspects.now) _ _ _ _ refl (search rules) c.in_ok-begin_seq.ensures c.loop-suspect.invariant.0) c.end_seq.ensures
