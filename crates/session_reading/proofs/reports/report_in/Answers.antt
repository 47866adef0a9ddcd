use Rattle.std.proofs.Common.{List, ℕ, subst}
use Rattle.report_doc.specs.declared.types.Report.{Report}
use Rattle.report_reading.specs.Reading.{IsReportOf}
use Rattle.session_reading.specs.Parts.{ReportTextRefused}
use Rattle.refusal.specs.Ends.{HasCause, IsMemory}
use Rattle.session_reading.proofs.LoadedTexts.{report-cause, report-memory}
use Rattle.session_reading.proofs.reports.report_in.Goals as goal

pub returns-in-Err-clause-refused : goal.returns-in-Err-clause-refused
returns-in-Err-clause-refused g c =
    subst (λ (t : List ℕ). HasCause (ReportTextRefused t) c.refused.result) c.as_slice.ensures
    (report-cause c.as_slice.result.now c.in-Err.fault c.refused.result c.in-Err.ensures.syntax c.in-Err.ensures.json
    c.in-Err.ensures.shape c.refused.ensures.status c.refused.ensures.says)

pub returns-in-Err-clause-only : goal.returns-in-Err-clause-only
returns-in-Err-clause-only g c =
    subst (λ (t : List ℕ). (report : Report) → IsReportOf t report → IsMemory c.refused.result) c.as_slice.ensures
    (λ report is. report-memory c.as_slice.result.now c.in-Err.fault c.refused.result report c.in-Err.ensures.syntax
    c.in-Err.ensures.shape c.refused.ensures.status c.refused.ensures.says is)
