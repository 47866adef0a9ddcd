use Rattle.list_writer.proofs.Standing.{log-stands, report-stands, waves-stand}
use Rattle.list_writer.proofs.laws.listed_texts.Goals as goal

pub returns : goal.returns
returns g c = record {
  log = log-stands g.of c.requires.0;
  report = report-stands g.of c.requires.0;
  waves = waves-stand g.of c.requires.0 c.requires.1.0 c.requires.1.1;
}
