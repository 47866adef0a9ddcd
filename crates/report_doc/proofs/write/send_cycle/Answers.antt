use Rattle.std.proofs.Common.{ℕ, List, [], get_or, subst, rules, arith}
use Rattle.std.proofs.lemmas.Grind.{common_steps}
use Rattle.std.proofs.lemmas.Result.{on_ok_weaker}
use Rattle.serde_json.specs.Data.{string}
use Rattle.serde_json.specs.Events.{SendsValue}
use Rattle.report_doc.proofs.Sent.{each-more, list_sent}
use Rattle.report_doc.proofs.write.send_cycle.Goals as goal

pub loop-place-preserved : goal.loop-place-preserved
loop-place-preserved g c =
    let P : List ℕ → Type 0 = λ s. SendsValue (string s) (g.S.Serializer.written c.loop-place.out) (g.S.Serializer.written c.send_text.new.out) in
    each-more string (get_or c.args.cycles.now c.args.cycle []) c.loop-place.place [] _ _ _ (grind (arith, common_steps)) c.loop-place.invariant (subst P c.text.ensures c.in_ok-send_text.ensures)

pub returns : goal.returns
returns g c =
    on_ok_weaker c.end_seq.result (list_sent string (get_or c.args.cycles.now c.args.cycle []) c.loop-place.place c.count.result _ _ _ _ (search rules) (grind (arith, common_steps)) c.in_ok-begin_seq.ensures c.loop-place.invariant) c.end_seq.ensures
