-- Private, for the functions inside this crate: why one step of the reading gives nothing.
use Rattle.std.specs.Prelude.{ℕ, ◌≤◌, List, length, Option, IsSomeAnd, codes}
use Rattle.refusal.specs.Lines.{input_line, memory_line}
use Rattle.load_texts.specs.declared.faults.LoadFault.{LoadFault}
use Rattle.load_texts.specs.Causes.{LoadCause}
use Rattle.load_texts.specs.Means.{most_bytes}
use Rattle.load_texts.specs.Refusals.{load_line, load_status}
use Rattle.report_doc.specs.declared.types.Report.{Report}
use Rattle.report_doc.specs.declared.types.ReportErr.{ReportErr}
use Rattle.report_doc.specs.declared.types.ReportErr.TheVariants as fault
use Rattle.report_doc.specs.declared.types.ReportErr.TheVariants.{Syntax, Shape}
use Rattle.report_doc.specs.Json.{IsJson}
use Rattle.report_reading.specs.Reading.{IsReportOf}
use Rattle.proof_check.specs.declared.types.LogErr.{LogErr}
use Rattle.proof_check.specs.declared.types.LogErr.TheVariants as log
use Rattle.proof_check.specs.declared.types.LogErr.TheVariants.{LogSyntax}
use Rattle.proof_check.specs.Text.{IsFirstBadLine}
use Rattle.session_reading.specs.Refusals.{bad_line}

-- it is there, and no longer than what is read
abbrev pub IsShort : Option (List ℕ) → Type 0
IsShort text = IsSomeAnd text (λ bytes. length bytes ≤ most_bytes)

-- it isn't handed over
pub data LoadRefused (name : List ℕ) (text : Option (List ℕ)) : ℕ → List ℕ → Type 0 where
  text_load : (fault : LoadFault) → LoadCause text fault → LoadRefused name text (load_status fault) (load_line name fault)

-- it is no report's
pub data ReportTextRefused (text : List ℕ) : ℕ → List ℕ → Type 0 where
  text_syntax : ¬ IsJson text → ReportTextRefused text 3 (input_line (codes "J1"))
  text_shape : IsJson text → ((report : Report) → ¬ IsReportOf text report) → ReportTextRefused text 3 (input_line (codes "J2"))

-- the line and the status of that
abbrev pub report_fault_line : ReportErr → List ℕ
report_fault_line Syntax = input_line (codes "J1")
report_fault_line Shape = input_line (codes "J2")
report_fault_line fault.NoMemory = memory_line

abbrev pub report_fault_status : ReportErr → ℕ
report_fault_status Syntax = 3
report_fault_status Shape = 3
report_fault_status fault.NoMemory = 7

-- it is no log's
pub data LogTextRefused (text : List ℕ) : ℕ → List ℕ → Type 0 where
  text_line : (line : ℕ) → IsFirstBadLine text line → LogTextRefused text 3 (bad_line line)

abbrev pub log_fault_line : LogErr → List ℕ
log_fault_line (LogSyntax line) = bad_line line
log_fault_line log.NoMemory = memory_line

abbrev pub log_fault_status : LogErr → ℕ
log_fault_status (LogSyntax line) = 3
log_fault_status log.NoMemory = 7
