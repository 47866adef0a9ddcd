use Rattle.std.proofs.Common.{◌≡◌, refl, subst, sym}
use Rattle.std.specs.Prelude.{IsSomeAnd}
use Rattle.proof_check.specs.Text.{IsLogText, text_of}
use Rattle.report_reading.specs.Reading.{IsReportOf}
use Rattle.report_reading.proofs.Utf8.{text_is_json}
use Rattle.list_writer.proofs.Standing.{log-stands, report-stands}
use Rattle.writer_verdict_laws.specs.Listings.{log_in, report_in}
use Rattle.writer_verdict_laws.proofs.laws.listed_is_read.Goals as goal

pub returns : goal.returns
returns g c = record {
  log = subst (λ text. IsSomeAnd text (λ t. IsLogText (log_in g.of) × (t ≡ text_of (log_in g.of)))) (sym (log-stands g.of c.requires.0))
      (g.of.is.is_ended.readable, refl);
  report = subst (λ text. IsSomeAnd text (λ t. IsReportOf t (report_in g.of))) (sym (report-stands g.of c.requires.0))
      (record { json = text_is_json (report_in g.of) g.of.is.is_report; report = g.of.is.is_report; kinds = c.requires.1 });
}
