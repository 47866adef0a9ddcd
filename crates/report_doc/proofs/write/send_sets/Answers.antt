use Rattle.std.proofs.Common.{sym, rules, length, refl}
use Rattle.std.proofs.lemmas.Result.{on_ok_weaker}
use Rattle.serde.proofs.Events.{WritesEach-more}
use Rattle.serde_json.specs.Events.{SendsValue}
use Rattle.std.specs.Prelude.{All}
use Rattle.report_doc.specs.Document.{set_data}
use Rattle.report_doc.specs.Shape.{IsWord}
use Rattle.report_doc.proofs.Sent.{list_sent}
use Rattle.report_doc.proofs.Ascii.{All-next}
use Rattle.report_doc.proofs.write.send_sets.Goals as goal

pub loop-set-preserved : goal.loop-set-preserved
loop-set-preserved g c =
    let sent = WritesEach-more (λ x. SendsValue (set_data x)) c.args.sets.now c.loop-set.set-index c.set-item.result _ _ _ c.loop-set-test.true c.set-item.is c.loop-set.invariant.0 c.in_ok-send_set.ensures.sends in
    let facts = All-next (λ set. All IsWord set.members) c.args.sets.now c.loop-set.set-index c.set-item.result c.set-item.result c.loop-set-test.true (sym c.set-item.is) c.loop-set.invariant.1 c.in_ok-send_set.ensures.members in
    (sent, facts)

pub returns-clause-sends : goal.returns-clause-sends
returns-clause-sends g c = on_ok_weaker c.end_seq.result (list_sent set_data c.args.sets.now c.loop-set.set-index (length c.args.sets.now) _ _ _ _ refl (search rules) c.in_ok-begin_seq.ensures c.loop-set.invariant.0) c.end_seq.ensures
