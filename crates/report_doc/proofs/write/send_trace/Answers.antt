use Rattle.std.proofs.Common.{[], rules, arith}
use Rattle.std.proofs.lemmas.Grind.{common_steps}
use Rattle.std.proofs.lemmas.Result.{on_ok_weaker}
use Rattle.serde_json.specs.Data.{string}
use Rattle.report_doc.specs.Json.{list_data}
use Rattle.report_doc.proofs.Sent.{each-more, list_sent}
use Rattle.report_doc.proofs.write.send_trace.Goals as goal

pub loop-cycle-preserved : goal.loop-cycle-preserved
loop-cycle-preserved g c = each-more (list_data string) c.args.cycles.now c.loop-cycle.cycle [] _ _ _ (grind (arith, common_steps)) c.loop-cycle.invariant c.in_ok-send_cycle.ensures

pub returns : goal.returns
returns g c = on_ok_weaker c.end_seq.result (list_sent (list_data string) c.args.cycles.now c.loop-cycle.cycle c.len.result _ _ _ _ (search rules) (grind (arith, common_steps)) c.in_ok-begin_seq.ensures c.loop-cycle.invariant) c.end_seq.ensures
