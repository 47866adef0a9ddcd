use Rattle.std.proofs.Common.{take}
use Rattle.std.specs.Prelude.{All}
use Rattle.report_doc.specs.Json.{number_data}
use Rattle.report_doc.specs.Shape.{IsWord}
use Rattle.report_doc.proofs.Sent.{SendsEach}
use Rattle.report_doc.proofs.write.send_numbers.Given as goal

abbrev pub invariant-loop-number : goal.invariant-loop-number
invariant-loop-number g l = SendsEach number_data (take l.number-index l.numbers) (g.S.Serializer.written l.initial.out) (g.S.Serializer.written l.out) × All IsWord (take l.number-index l.numbers)
