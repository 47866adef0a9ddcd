use Rattle.std.proofs.Common.{take}
use Rattle.std.specs.Prelude.{All}
use Rattle.report_doc.specs.Document.{suspect_data}
use Rattle.report_doc.specs.Shape.{IsSuspect}
use Rattle.report_doc.proofs.Sent.{SendsEach}
use Rattle.report_doc.proofs.write.send_suspects.Given as goal

abbrev pub invariant-loop-suspect : goal.invariant-loop-suspect
invariant-loop-suspect g l = SendsEach suspect_data (take l.suspect-index l.suspects) (g.S.Serializer.written l.initial.out) (g.S.Serializer.written l.out) × All IsSuspect (take l.suspect-index l.suspects)
