-- Why nothing is judged, in the order in which the causes are looked for: the report's text, its kinds of suspects, the design's text
-- and all that a list is asked of (`load_problem`), the log's text, the digests. What is printed, and the status.
use Rattle.std.specs.Prelude.{ℕ, ◌≡◌, List, ◌++◌, Some, codes}
use Rattle.loc_base.specs.declared.digest.Digest.{Digest}
use Rattle.printed_text.specs.Numerals.{newline}
use Rattle.command_contract.specs.Contract.{Texts}
use Rattle.front_end.specs.Means.{Meaning, Refusing}
use Rattle.report_doc.specs.declared.types.Report.{Report}
use Rattle.session_reading.specs.Refusals.{DiffersFirst, LogRefused, ReportRefused, other_line}
use Rattle.load_problem.specs.Means.{Suspecting}
use Rattle.load_problem.specs.Refusals.{Refused as InputsRefused}
use Rattle.check_cmd.specs.Asked.{wanted_by}
use Rattle.requests.specs.Asked.{CheckAsked}
use Rattle.check_cmd.specs.Means.{Asks, Given, Means, MeansReport, Posed, Poses, unknown_kind}

-- `input U1 NAME`
abbrev pub kind_line : List ℕ → List ℕ
kind_line name = codes "input U1 " ++ name ++ newline

-- ---- refusals
-- a refusal with its status and its line: what stands before it in the order has its value
pub data Refused (M : Meaning) (R : Refusing) (known : List (List ℕ)) (S : Suspecting) (asked : CheckAsked) (texts : Texts)
    : ℕ → List ℕ → Type 0 where
  for_report : (status : ℕ) (line : List ℕ) → ReportRefused asked.report (texts asked.report) status line
      → Refused M R known S asked texts status line
  for_kind : (report : Report) (name : List ℕ) → MeansReport asked texts report → unknown_kind known report ≡ Some name
      → Refused M R known S asked texts 3 (kind_line name)
  for_inputs : (report : Report) (status : ℕ) (line : List ℕ) → Asks known asked texts report
      → InputsRefused M R S (wanted_by asked report) texts status line → Refused M R known S asked texts status line
  for_log : (p : Posed) (status : ℕ) (line : List ℕ) → Poses M known S asked texts p → LogRefused asked.log (texts asked.log) status line
      → Refused M R known S asked texts status line
  for_other : (g : Given) (session : Digest) → Means M known S asked texts g
      → DiffersFirst g.posed.report.inputs g.log.inputs g.posed.inputs session
      → Refused M R known S asked texts 3 (other_line session g.posed.inputs)
