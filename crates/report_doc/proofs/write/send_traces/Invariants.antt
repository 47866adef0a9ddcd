use Rattle.std.proofs.Common.{take}
use Rattle.report_doc.specs.Document.{trace_data}
use Rattle.report_doc.proofs.Sent.{SendsEach}
use Rattle.report_doc.proofs.write.send_traces.Given as goal

abbrev pub invariant-loop-trace : goal.invariant-loop-trace
invariant-loop-trace g l = SendsEach trace_data (take l.trace-index l.traces) (g.S.Serializer.written l.initial.out) (g.S.Serializer.written l.out)
