use Rattle.std.proofs.Common.{refl}
use Rattle.report_reading.proofs.Utf8.{text_is_json}
use Rattle.writer_verdict_laws.specs.Listings.{report_at}
use Rattle.writer_verdict_laws.proofs.laws.checkpoint_is_read.Goals as goal

pub returns : goal.returns
returns g c = record {
  log = (g.of.is.is_ended.readable, refl);
  report = record { json = text_is_json (report_at g.of) g.of.is.is_report; report = g.of.is.is_report; kinds = c.requires };
}
