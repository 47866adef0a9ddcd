use Rattle.std.proofs.Common.{[], take, get_or}
use Rattle.serde_json.specs.Data.{string}
use Rattle.report_doc.proofs.Sent.{SendsEach}
use Rattle.report_doc.proofs.write.send_cycle.Given as goal

abbrev pub invariant-loop-place : goal.invariant-loop-place
invariant-loop-place g l = SendsEach string (take l.place (get_or l.cycles l.cycle [])) (g.S.Serializer.written l.initial.out) (g.S.Serializer.written l.out)
