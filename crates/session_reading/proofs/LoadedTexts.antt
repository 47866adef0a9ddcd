-- A text that is loaded, and what it is.
use Rattle.std.proofs.Common.{ℕ, ◌+◌, ◌≡◌, ◌≢◌, ◌<◌, ◌≤◌, ◌^◌, List, [], ◌∷◌, ◌++◌, length, Option, Some, None, Err, codes, refl, sym, ap, subst, ◌∙◌, arith, ◌⊎◌, inl}
use Rattle.std.specs.Prelude.{IsSomeAnd}
use Rattle.std.specs.List.{flat_map}
use Rattle.std.proofs.lemmas.List.{length-append, length-map}
use Rattle.io_ports.specs.Faults.{FaultCounts}
use Rattle.command_contract.specs.Contract.{read_fault_line}
use Rattle.command_contract.proofs.Statuses.{input-range}
use Rattle.load_texts.specs.declared.faults.LoadFault.{LoadFault}
use Rattle.load_texts.specs.declared.faults.LoadFault.TheVariants as fault
use Rattle.load_texts.specs.Causes.{LoadCause}
use Rattle.load_texts.specs.Means.{IsReadAnd, most_bytes}
use Rattle.load_texts.specs.Refusals.{load_line, load_status}
use Rattle.load_texts.specs.Texts.{LoadCounts}
use Rattle.refusal.specs.Lines.{input_line, memory_line}
use Rattle.report_doc.specs.declared.types.Report.{Report}
use Rattle.report_doc.specs.declared.types.ReportErr.{ReportErr}
use Rattle.report_doc.specs.declared.types.ReportErr.TheVariants as json
use Rattle.report_doc.specs.Document.{report_data}
use Rattle.report_doc.specs.Errors.{OnShape, OnSyntax}
use Rattle.report_doc.specs.Json.{IsJson}
use Rattle.report_reading.specs.Reading.{IsReportOf}
use Rattle.proof_check.specs.declared.types.LogText.{LogText}
use Rattle.proof_check.specs.declared.types.LogErr.{LogErr}
use Rattle.proof_check.specs.declared.types.LogErr.TheVariants as log
use Rattle.proof_check.specs.Errors.{OnSyntax as OnBadLine}
use Rattle.proof_check.specs.Text.{IsFirstBadLine, IsLogText, lines_of, step_line, text_of}
use Rattle.refusal.specs.declared.last_line.LastLine.{LastLine}
use Rattle.refusal.specs.declared.last_line.LastLine.TheVariants.{Line, Memory}
use Rattle.refusal.specs.Ends.{HasCause, HasStatus, IsMemory, IsSpared, RefusalCounts, Says}
use Rattle.session_reading.specs.Texts.{IsLogOf}
use Rattle.session_reading.specs.Parts as parts
use Rattle.session_reading.specs.Parts.{IsShort, LoadRefused, LogTextRefused, ReportTextRefused}
use Rattle.session_reading.specs.Refusals as refused
use Rattle.session_reading.specs.Refusals.{LogRefused, ReportRefused, bad_line}
use Rattle.session_reading.proofs.Causes.{cause-of, memory-cause, no-memory, said}

-- ---- a load
-- the shelf's faults, from those of the load of a name to those of its refusal, which names it
pub load-counts : (old new : FaultCounts) (name : List ℕ) (why : LoadFault) (r : LastLine)
    → LoadCounts {X = List ℕ} name old new (Err why)
    → HasStatus r → Says r (load_status why) (load_line name why) → RefusalCounts old new r
load-counts old new name fault.Fault (Line s l) rose has (e, f) =
    (λ _. (rose.0, f ∙ ap (λ (n : List ℕ). read_fault_line n) (sym rose.1)), λ other. absurd (other e))
load-counts old new name fault.Size (Line s l) same has (e, f) = (λ five. absurd (omega (arith, e, five)), λ _. same)
load-counts old new name fault.NoMemory (Line s l) same has (e, f) = absurd (omega (arith, e, input-range s has))
load-counts old new name why Memory counts has says = tt

-- a text that is short enough is refused by a fault of the shelf, or for want of memory
not-long : (text : Option (List ℕ)) → IsShort text → IsSomeAnd text (λ bytes. most_bytes < length bytes) → ⊥
not-long (Some bytes) short long = omega (arith, short, long)
not-long None short long = long

pub load-spared : (text : Option (List ℕ)) (why : LoadFault) (r : LastLine) (line : List ℕ) → LoadCause text why → HasStatus r
    → Says r (load_status why) line → IsShort text → IsSpared r
load-spared text fault.Fault (Line s l) line cause has (e, f) short = e
load-spared text fault.Size (Line s l) line cause has (e, f) short = absurd (not-long text short cause)
load-spared text fault.NoMemory (Line s l) line cause has (e, f) short = absurd (omega (arith, e, input-range s has))
load-spared text why Memory line cause has says short = tt

-- ---- a text that is there
pub at-text : (o : Option (List ℕ)) (text : List ℕ) (P : List ℕ → Type 0) → o ≡ Some text → length text ≤ most_bytes → P text
    → IsReadAnd o P
at-text o text P e short holds = subst (λ (x : Option (List ℕ)). IsReadAnd x P) (sym e) (short, holds)

pub of-text : (o : Option (List ℕ)) (text : List ℕ) (P : List ℕ → Type 0) → o ≡ Some text → IsReadAnd o P → P text
of-text o text P e read = (subst (λ (x : Option (List ℕ)). IsReadAnd x P) e read).1

pub is-short : (o : Option (List ℕ)) (P : List ℕ → Type 0) → IsReadAnd o P → IsShort o
is-short (Some text) P read = read.0
is-short None P read = read

-- ---- a report
pub report-cause_load : (name : List ℕ) (there : Option (List ℕ)) (r : LastLine) → HasCause (LoadRefused name there) r
    → HasCause (ReportRefused name there) r
report-cause_load name there r = cause-of (LoadRefused name there) (ReportRefused name there) r at
  where
    at : (s : ℕ) (l : List ℕ) → LoadRefused name there s l → ReportRefused name there s l
    at s l (parts.text_load why cause) = refused.report_load why cause

pub report-cause_text : (name : List ℕ) (there : Option (List ℕ)) (text : List ℕ) (r : LastLine) → there ≡ Some text
    → length text ≤ most_bytes → HasCause (ReportTextRefused text) r → HasCause (ReportRefused name there) r
report-cause_text name there text r e short =
    cause-of (ReportTextRefused text) (ReportRefused name there) r at
  where
    at : (s : ℕ) (l : List ℕ) → ReportTextRefused text s l → ReportRefused name there s l
    at s l (parts.text_syntax not) = refused.report_syntax (at-text there text _ e short not)
    at s l (parts.text_shape json not) = refused.report_shape (at-text there text _ e short (json, not))

-- why a text is no report's
pub report-cause : (text : List ℕ) (why : ReportErr) (r : LastLine) → OnSyntax {T = Report} (Err why) (¬ IsJson text)
    → OnShape {T = Report} (Err why) (IsJson text) → OnShape {T = Report} (Err why) ((report : Report) → ¬ IsReportOf text report)
    → HasStatus r → Says r (parts.report_fault_status why) (parts.report_fault_line why) → HasCause (ReportTextRefused text) r
report-cause text json.Syntax r syntax is shape has says =
    said (ReportTextRefused text) r 3 (input_line (codes "J1")) (parts.text_syntax syntax) says
report-cause text json.Shape r syntax is shape has says =
    said (ReportTextRefused text) r 3 (input_line (codes "J2")) (parts.text_shape is shape) says
report-cause text json.NoMemory r syntax is shape has says =
    memory-cause (ReportTextRefused text) r (no-memory r memory_line has says)

pub report-memory : (text : List ℕ) (why : ReportErr) (r : LastLine) (report : Report) → OnSyntax {T = Report} (Err why) (¬ IsJson text)
    → OnShape {T = Report} (Err why) ((x : Report) → ¬ IsReportOf text x) → HasStatus r
    → Says r (parts.report_fault_status why) (parts.report_fault_line why) → IsReportOf text report → IsMemory r
report-memory text json.Syntax r report syntax shape has says is = absurd (syntax (report_data report, is.json))
report-memory text json.Shape r report syntax shape has says is = absurd (shape report is)
report-memory text json.NoMemory r report syntax shape has says is = no-memory r memory_line has says

pub report-low : (text : List ℕ) (s : ℕ) (l : List ℕ) → ReportTextRefused text s l → (s ≡ 3) ⊎ (s ≡ 4)
report-low text s l (parts.text_syntax not) = inl refl
report-low text s l (parts.text_shape json not) = inl refl

-- ---- a log
pub log-cause_load : (name : List ℕ) (there : Option (List ℕ)) (r : LastLine) → HasCause (LoadRefused name there) r
    → HasCause (LogRefused name there) r
log-cause_load name there r = cause-of (LoadRefused name there) (LogRefused name there) r at
  where
    at : (s : ℕ) (l : List ℕ) → LoadRefused name there s l → LogRefused name there s l
    at s l (parts.text_load why cause) = refused.log_load why cause

pub log-cause_text : (name : List ℕ) (there : Option (List ℕ)) (text : List ℕ) (r : LastLine) → there ≡ Some text
    → length text ≤ most_bytes → HasCause (LogTextRefused text) r → HasCause (LogRefused name there) r
log-cause_text name there text r e short =
    cause-of (LogTextRefused text) (LogRefused name there) r at
  where
    at : (s : ℕ) (l : List ℕ) → LogTextRefused text s l → LogRefused name there s l
    at s l (parts.text_line line bad) = refused.log_line line (at-text there text _ e short bad)

-- why a text is no log's
pub log-cause : (text : List ℕ) (why : LogErr) (r : LastLine) → OnBadLine {T = LogText} (Err why) (λ line. IsFirstBadLine text line)
    → HasStatus r → Says r (parts.log_fault_status why) (parts.log_fault_line why) → HasCause (LogTextRefused text) r
log-cause text (log.LogSyntax line) r bad has says = said (LogTextRefused text) r 3 (bad_line line) (parts.text_line line bad) says
log-cause text log.NoMemory r bad has says = memory-cause (LogTextRefused text) r (no-memory r memory_line has says)

pub log-memory : (text : List ℕ) (why : LogErr) (r : LastLine) (value : LogText)
    → OnBadLine {T = LogText} (Err why) (λ _. (other : LogText) → IsLogText other → text ≢ text_of other) → HasStatus r
    → Says r (parts.log_fault_status why) (parts.log_fault_line why) → IsLogOf text value → IsMemory r
log-memory text (log.LogSyntax line) r value none has says is = absurd (none value is.0 is.1)
log-memory text log.NoMemory r value none has says is = no-memory r memory_line has says

pub log-low : (text : List ℕ) (s : ℕ) (l : List ℕ) → LogTextRefused text s l → (s ≡ 3) ⊎ (s ≡ 4)
log-low text s l (parts.text_line line bad) = inl refl

-- a text of lines has a newline for each of them
lines-length : (lines : List (List ℕ)) → length lines ≤ length (flat_map (λ line. line ++ 10 ∷ []) lines)
lines-length [] = omega arith
lines-length (line ∷ lines) =
    omega (arith, length-append (line ++ 10 ∷ []) (flat_map (λ line. line ++ 10 ∷ []) lines), length-append line (10 ∷ []), lines-length lines)

pub few-steps : (text : List ℕ) (log : LogText) → IsLogOf text log → length text ≤ most_bytes → length log.log + 1 < 2 ^ 32
few-steps text log (is, e) short =
    omega (arith, short, ap length e, lines-length (lines_of log), length-map log.log step_line)
