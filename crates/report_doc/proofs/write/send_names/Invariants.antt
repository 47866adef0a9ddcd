use Rattle.std.proofs.Common.{take}
use Rattle.std.specs.Prelude.{All}
use Rattle.loc_base.specs.Name.{IsName}
use Rattle.serde_json.specs.Data.{string}
use Rattle.report_doc.proofs.Sent.{SendsEach}
use Rattle.report_doc.proofs.write.send_names.Given as goal

abbrev pub invariant-loop-name : goal.invariant-loop-name
invariant-loop-name g l = SendsEach string (take l.name-index l.names) (g.S.Serializer.written l.initial.out) (g.S.Serializer.written l.out) × All IsName (take l.name-index l.names)
