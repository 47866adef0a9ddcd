use Rattle.std.proofs.Common.{take}
use Rattle.serde_json.specs.Data.{string}
use Rattle.report_doc.specs.Json.{list_data}
use Rattle.report_doc.proofs.Sent.{SendsEach}
use Rattle.report_doc.proofs.write.send_trace.Given as goal

abbrev pub invariant-loop-cycle : goal.invariant-loop-cycle
invariant-loop-cycle g l = SendsEach (list_data string) (take l.cycle l.cycles) (g.S.Serializer.written l.initial.out) (g.S.Serializer.written l.out)
