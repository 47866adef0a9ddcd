use Rattle.report_reading.proofs.Utf8.{text_is_json}
use Rattle.report_reading.proofs.laws.text_reads_back.Goals as goal

pub returns : goal.returns
returns g c = record { json = text_is_json g.report c.requires.0; report = c.requires.0; kinds = c.requires.1 }
