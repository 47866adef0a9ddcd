use Rattle.std.specs.Prelude.{All}
use Rattle.serde_json.specs.Data.{string}
use Rattle.report_doc.specs.Json.{list_data}
use Rattle.report_doc.specs.Shape.{IsHexText}
use Rattle.report_reading.proofs.Lists.{AreRead}
use Rattle.report_reading.proofs.values.CycleTextsFromJson.read.Given as goal

abbrev pub invariant-loop-element : goal.invariant-loop-element
invariant-loop-element l = AreRead (All IsHexText) (list_data string) l.found l.elements l.element-index
