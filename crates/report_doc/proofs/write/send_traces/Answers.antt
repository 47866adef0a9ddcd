use Rattle.std.proofs.Common.{rules, length, refl}
use Rattle.std.proofs.lemmas.Result.{on_ok_weaker}
use Rattle.serde.proofs.Events.{WritesEach-more}
use Rattle.serde_json.specs.Events.{SendsValue}
use Rattle.report_doc.specs.Document.{trace_data}
use Rattle.report_doc.proofs.Sent.{list_sent}
use Rattle.report_doc.proofs.write.send_traces.Goals as goal

pub loop-trace-preserved : goal.loop-trace-preserved
loop-trace-preserved g c = WritesEach-more (λ x. SendsValue (trace_data x)) c.args.traces.now c.loop-trace.trace-index c.trace-item.result _ _ _ c.loop-trace-test.true c.trace-item.is c.loop-trace.invariant c.in_ok-send_trace.ensures

pub returns : goal.returns
returns g c = on_ok_weaker c.end_seq.result (list_sent trace_data c.args.traces.now c.loop-trace.trace-index (length c.args.traces.now) _ _ _ _ refl (search rules) c.in_ok-begin_seq.ensures c.loop-trace.invariant) c.end_seq.ensures
