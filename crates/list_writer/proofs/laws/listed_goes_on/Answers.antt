use Rattle.list_writer.proofs.Ongoing.{log-goes-on, report-goes-on}
use Rattle.list_writer.proofs.laws.listed_goes_on.Goals as goal

pub returns : goal.returns
returns g c = record { log = log-goes-on g.of; report = report-goes-on g.of }
