use Rattle.report_reading.proofs.Lists.{AreRead}
use Rattle.report_reading.proofs.from_json.ItemsFromJson.read.Given as goal

abbrev pub invariant-loop-element : goal.invariant-loop-element
invariant-loop-element g l = AreRead g.T.FromJson.holds g.T.FromJson.written l.found l.elements l.element-index
