use Rattle.session_reading.specs.Texts.{IsReportIn}
use Rattle.session_reading.specs.Parts.{ReportTextRefused}
use Rattle.session_reading.specs.Refusals.{ReportRefused}
use Rattle.refusal.specs.Ends.{HasCause, HasStatus, IsMemory, IsSpared}
use Rattle.report_doc.specs.Shape.{IsReport}
use Rattle.report_reading.specs.Reading.{IsReportOf}
use Rattle.load_texts.proofs.Loaded.{passed_on}
use Rattle.session_reading.proofs.Causes.{err-of, low-counts_of, low-status, memory-spared, ok-of}
use Rattle.session_reading.proofs.LoadedTexts.{at-text, is-short, of-text, report-cause_load, report-cause_text, report-low}
use Rattle.session_reading.proofs.reports.load_report.Goals as goal

pub returns-in_err-text-clause-refused : goal.returns-in_err-text-clause-refused
returns-in_err-text-clause-refused g c = λ told.
    let name = c.args.name.now in
    let there = g.S.Shelf.texts c.args.shelf.now name in
    passed_on (HasCause (ReportRefused name there)) c.from_residual.result c.in_err-text.field-0.0 c.from_residual.ensures.1
    (report-cause_load name there c.in_err-text.field-0.0 (c.in_err-text.ensures.refused told))

pub returns-in_err-text-clause-only : goal.returns-in_err-text-clause-only
returns-in_err-text-clause-only g c = λ told report means.
    let name = c.args.name.now in
    let there = g.S.Shelf.texts c.args.shelf.now name in
    passed_on IsSpared c.from_residual.result c.in_err-text.field-0.0 c.from_residual.ensures.1
    (c.in_err-text.ensures.only told (is-short there _ means))

pub returns-clause-counts : goal.returns-clause-counts
returns-clause-counts g c =
    low-counts_of (ReportTextRefused c.in_ok-text.text) (report-low c.in_ok-text.text) _ _ c.report_in.result
    c.report_in.ensures.refused c.in_ok-text.ensures.counts

pub returns-clause-status : goal.returns-clause-status
returns-clause-status g c =
    err-of (HasCause (ReportTextRefused c.in_ok-text.text)) HasStatus c.report_in.result
    (low-status (ReportTextRefused c.in_ok-text.text) (report-low c.in_ok-text.text)) c.report_in.ensures.refused

pub returns-clause-report : goal.returns-clause-report
returns-clause-report g c =
    ok-of (IsReportOf c.in_ok-text.text) IsReport c.report_in.result (λ report is. is.report) c.report_in.ensures.means

pub returns-clause-means : goal.returns-clause-means
returns-clause-means g c = λ told.
    let name = c.args.name.now in
    let there = g.S.Shelf.texts c.args.shelf.now name in
    ok-of (IsReportOf c.in_ok-text.text) (IsReportIn there) c.report_in.result
    (λ report is. at-text there c.in_ok-text.text (λ text. IsReportOf text report) (c.in_ok-text.ensures.text told)
    c.in_ok-text.ensures.short is)
    c.report_in.ensures.means

pub returns-clause-refused : goal.returns-clause-refused
returns-clause-refused g c = λ told.
    let name = c.args.name.now in
    let there = g.S.Shelf.texts c.args.shelf.now name in
    err-of (HasCause (ReportTextRefused c.in_ok-text.text)) (HasCause (ReportRefused name there)) c.report_in.result
    (λ refusal. report-cause_text name there c.in_ok-text.text refusal (c.in_ok-text.ensures.text told) c.in_ok-text.ensures.short)
    c.report_in.ensures.refused

pub returns-clause-only : goal.returns-clause-only
returns-clause-only g c = λ told report means.
    let name = c.args.name.now in
    let there = g.S.Shelf.texts c.args.shelf.now name in
    err-of IsMemory IsSpared c.report_in.result memory-spared
    (c.report_in.ensures.only report
    (of-text there c.in_ok-text.text (λ text. IsReportOf text report) (c.in_ok-text.ensures.text told) means))
