-- Why a session isn't taken: the text of its report, that of its log, or the digests of both. What is printed, and the status.
use Rattle.std.specs.Prelude.{ℕ, ◌≡◌, ◌≢◌, List, ◌++◌, Option, codes, decimal}
use Rattle.hex.specs.Hex.{encode_lower}
use Rattle.loc_base.specs.declared.digest.Digest.{Digest}
use Rattle.printed_text.specs.Numerals.{newline}
use Rattle.refusal.specs.Lines.{input_line}
use Rattle.load_texts.specs.declared.faults.LoadFault.{LoadFault}
use Rattle.load_texts.specs.Causes.{LoadCause}
use Rattle.load_texts.specs.Means.{IsReadAnd}
use Rattle.load_texts.specs.Refusals.{load_line, load_status}
use Rattle.report_doc.specs.declared.types.Report.{Report}
use Rattle.report_doc.specs.Json.{IsJson}
use Rattle.report_reading.specs.Reading.{IsReportOf}
use Rattle.proof_check.specs.Text.{IsFirstBadLine}
use Rattle.session_reading.specs.declared.digests.Digests.{Digests}

-- ---- lines
-- `input G1 LINE`
abbrev pub bad_line : ℕ → List ℕ
bad_line line = codes "input G1 " ++ decimal line ++ newline

-- `input other H1 H2`: the session's digest and the inputs', each as 64 lower-case hex digits
abbrev pub other_line : Digest → Digest → List ℕ
other_line session inputs =
    codes "input other " ++ encode_lower session.bytes ++ codes " " ++ encode_lower inputs.bytes ++ newline

-- ---- texts
-- the report's text of that name: it isn't handed over; it isn't JSON; it is JSON of another shape than a report's
pub data ReportRefused (name : List ℕ) (text : Option (List ℕ)) : ℕ → List ℕ → Type 0 where
  report_load : (fault : LoadFault) → LoadCause text fault → ReportRefused name text (load_status fault) (load_line name fault)
  report_syntax : IsReadAnd text (λ bytes. ¬ IsJson bytes) → ReportRefused name text 3 (input_line (codes "J1"))
  report_shape : IsReadAnd text (λ bytes. IsJson bytes × ((report : Report) → ¬ IsReportOf bytes report))
      → ReportRefused name text 3 (input_line (codes "J2"))

-- the log's text: it isn't handed over; a line of it isn't of the form
pub data LogRefused (name : List ℕ) (text : Option (List ℕ)) : ℕ → List ℕ → Type 0 where
  log_load : (fault : LoadFault) → LoadCause text fault → LogRefused name text (load_status fault) (load_line name fault)
  log_line : (line : ℕ) → IsReadAnd text (λ bytes. IsFirstBadLine bytes line) → LogRefused name text 3 (bad_line line)

-- ---- digests
-- report and log are of the inputs
abbrev pub AreSame : Digests → Type 0
AreSame digests = (digests.report ≡ digests.inputs) × (digests.log ≡ digests.inputs)

-- the first of the digests of report and log that isn't the inputs'
pub data DiffersFirst (report log inputs : Digest) : Digest → Type 0 where
  in_report : report ≢ inputs → DiffersFirst report log inputs report
  in_log : report ≡ inputs → log ≢ inputs → DiffersFirst report log inputs log

-- that digest and the inputs' are told
pub data OtherRefused (digests : Digests) : ℕ → List ℕ → Type 0 where
  session_differs : (session : Digest) → DiffersFirst digests.report digests.log digests.inputs session
      → OtherRefused digests 3 (other_line session digests.inputs)
