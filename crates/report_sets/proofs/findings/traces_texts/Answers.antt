use Rattle.std.proofs.Common.{arith, refl}
use Rattle.report_sets.specs.Found.{traces_texts}
use Rattle.report_sets.proofs.SetRows.{counted-next, trace-within, traces-next, traces-none}
use Rattle.report_sets.proofs.findings.traces_texts.Goals as goal

pub rows_texts-requires-clause-rows : goal.rows_texts-requires-clause-rows
rows_texts-requires-clause-rows c =
    (trace-within c.args.values.now c.args.traces.now c.loop-trace.trace-index c.loop-trace.first c.trace-item.result c.requires
    (omega arith) c.trace-item.is c.loop-trace.invariant.first).0

pub loop-trace-preserved : goal.loop-trace-preserved
loop-trace-preserved c = record {
  first = counted-next c.args.traces.now c.loop-trace.trace-index c.loop-trace.first _ c.trace-item.result
      (omega arith) c.trace-item.is c.loop-trace.invariant.first refl;
  texts = traces-next c.args.values.now c.loop-trace.first c.loop-trace.trace-index c.args.traces.now c.trace-item.result
      c.in_ok-rows_texts.field-0 (traces_texts c.args.values.now 0 c.args.traces.now) c.loop-trace.texts c.push.new.self
      (omega arith) c.trace-item.is c.loop-trace.invariant.texts c.in_ok-rows_texts.ensures c.in_ok-push.ensures.ok;
}

pub returns : goal.returns
returns c =
    traces-none c.args.values.now c.loop-trace.first c.loop-trace.trace-index c.args.traces.now
    (traces_texts c.args.values.now 0 c.args.traces.now) c.loop-trace.texts (omega arith) c.loop-trace.invariant.texts
