use Rattle.std.proofs.Common.{take}
use Rattle.std.specs.Prelude.{All}
use Rattle.report_doc.specs.Document.{set_data}
use Rattle.report_doc.specs.Shape.{IsWord}
use Rattle.report_doc.proofs.Sent.{SendsEach}
use Rattle.report_doc.proofs.write.send_sets.Given as goal

abbrev pub invariant-loop-set : goal.invariant-loop-set
invariant-loop-set g l = SendsEach set_data (take l.set-index l.sets) (g.S.Serializer.written l.initial.out) (g.S.Serializer.written l.out) × All (λ set. All IsWord set.members) (take l.set-index l.sets)
