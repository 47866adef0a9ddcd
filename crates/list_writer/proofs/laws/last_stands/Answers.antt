use Rattle.list_writer.proofs.Last.{log-stands, report-stands}
use Rattle.list_writer.proofs.laws.last_stands.Goals as goal

pub returns : goal.returns
returns g c = record { log = log-stands g.of; report = report-stands g.of }
