-- What the texts of a session are: that of a report, and that of a log.
use Rattle.std.specs.Prelude.{ℕ, ◌≡◌, List, Option}
use Rattle.load_texts.specs.Means.{IsReadAnd}
use Rattle.report_doc.specs.declared.types.Report.{Report}
use Rattle.report_reading.specs.Reading.{IsReportOf}
use Rattle.proof_check.specs.declared.types.LogText.{LogText}
use Rattle.proof_check.specs.Text.{IsLogText, text_of}

-- a text is handed over, and is that of the report
abbrev pub IsReportIn : Option (List ℕ) → Report → Type 0
IsReportIn text report = IsReadAnd text (λ bytes. IsReportOf bytes report)

-- a text is that of a log
abbrev pub IsLogOf : List ℕ → LogText → Type 0
IsLogOf text log = IsLogText log × (text ≡ text_of log)

-- it is handed over
abbrev pub IsLogIn : Option (List ℕ) → LogText → Type 0
IsLogIn text log = IsReadAnd text (λ bytes. IsLogOf bytes log)
