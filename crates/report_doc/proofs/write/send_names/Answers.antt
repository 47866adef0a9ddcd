use Rattle.std.proofs.Common.{sym, rules, length, refl}
use Rattle.std.proofs.lemmas.Result.{on_ok_weaker}
use Rattle.serde.proofs.Events.{WritesEach-more}
use Rattle.serde_json.specs.Events.{SendsValue}
use Rattle.serde_json.specs.Data.{string}
use Rattle.loc_base.specs.Name.{IsName}
use Rattle.report_doc.proofs.Sent.{list_sent}
use Rattle.report_doc.proofs.Ascii.{All-next}
use Rattle.report_doc.proofs.write.send_names.Goals as goal

pub loop-name-preserved : goal.loop-name-preserved
loop-name-preserved g c =
    let sent = WritesEach-more (λ x. SendsValue (string x)) c.args.names.now c.loop-name.name-index c.name-item.result _ _ _ c.loop-name-test.true c.name-item.is c.loop-name.invariant.0 c.in_ok-send_name.ensures.sends in
    let facts = All-next IsName c.args.names.now c.loop-name.name-index c.name-item.result c.name-item.result c.loop-name-test.true (sym c.name-item.is) c.loop-name.invariant.1 c.send_name.ensures.name in
    (sent, facts)

pub returns-clause-sends : goal.returns-clause-sends
returns-clause-sends g c = on_ok_weaker c.end_seq.result (list_sent string c.args.names.now c.loop-name.name-index (length c.args.names.now) _ _ _ _ refl (search rules) c.in_ok-begin_seq.ensures c.loop-name.invariant.0) c.end_seq.ensures
