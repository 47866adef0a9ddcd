use Rattle.std.proofs.Common.{arith}
use Rattle.std.specs.Prelude.{All}
use Rattle.serde_json.specs.View.{view}
use Rattle.report_doc.specs.Json.{list_data}
use Rattle.report_reading.proofs.Found.{not_read}
use Rattle.report_reading.proofs.Lists.{unread}
use Rattle.report_reading.proofs.from_json.ItemsFromJson.read.Goals as goal

pub returns-in_err-read : goal.returns-in_err-read
returns-in_err-read g c =
    not_read (All g.T.FromJson.holds) (list_data g.T.FromJson.written) (view c.args.value.now) c.from_residual-in_err-read.result _
    c.from_residual-in_err-read.ensures.1 c.in_err-read.ensures
    (unread g.T.FromJson.holds g.T.FromJson.written c.in_ok-elements.elements.now (view c.args.value.now) c.loop-element.element-index
    c.element-item.result c.in_ok-elements.ensures (omega arith) c.element-item.is)
