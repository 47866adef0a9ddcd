-- The case of a check: `yes` exactly where the report's top and suspects are those that are asked of, and its sets are the problem's list
-- by their values and by the log, so that they are the whole list; else the first condition that fails. Nothing is written, and one line
-- is printed.
use Rattle.std.specs.Prelude.{ℕ, ◌≡◌, ◌⊎◌, ◌++◌, List, length, None}
use Rattle.loc_base.specs.declared.digest.Digest.{Digest}
use Rattle.command_contract.specs.Contract.{Case, IsInputRefusal, NothingWritten, Run, Texts, WriteFailed}
use Rattle.front_end.specs.Means.{Meaning, Refusing}
use Rattle.report_doc.specs.declared.types.Report.{Report}
use Rattle.proof_check.specs.declared.types.LogText.{LogText}
use Rattle.debug_core.specs.Problems.{IsProblem}
use Rattle.refusal.specs.Stops.{LineCut, LineStops}
use Rattle.load_problem.specs.Means.{IsDigestOf, Suspecting}
use Rattle.load_problem.specs.Refusals.{IsReady as IsReadyList}
use Rattle.list_verdict.specs.declared.verdict.Verdict.TheVariants as verdict
use Rattle.list_verdict.specs.Verdicts.{IsFrontList, IsVerdict, IsWholeList}
use Rattle.check_cmd.specs.declared.verdicts.Judgement.{Judgement}
use Rattle.check_cmd.specs.declared.verdicts.Judgement.TheVariants.{OfList, OfTable}
use Rattle.check_cmd.specs.Asked.{wanted_by}
use Rattle.requests.specs.Asked.{CheckAsked}
use Rattle.check_cmd.specs.Lines.{judgement_line, judgement_status}
use Rattle.check_cmd.specs.Means.{AreOfInputs, Given, Means, MeansLog, MeansReport, claim_of, unknown_kind}
use Rattle.check_cmd.specs.Refusals.{Refused}
use Rattle.check_cmd.specs.Table.{HasTable, IsTableFault}

-- ---- answers
-- what is judged of a report: its top or a suspect is another one; or, where these are those that are asked of, the verdict on its list
abbrev pub IsJudgement : List ℕ → Given → Judgement → Type 0
IsJudgement top g (OfTable fault) = IsTableFault top g.posed fault
IsJudgement top g (OfList v) = HasTable top g.posed × IsVerdict (claim_of g) v

-- the texts mean a report, its problem, and a log, both of these inputs, and this is judged of them
pub record Judged (M : Meaning) (known : List (List ℕ)) (S : Suspecting) (asked : CheckAsked) (texts : Texts) (j : Judgement)
    (status : ℕ) (line : List ℕ) : Type 0 where
  pub given : Given
  pub means : Means M known S asked texts given
  pub same : AreOfInputs given
  -- the problem is one that can be asked: by the laws of `list_verdict` no verdict but a yes comes where the sets are the whole list by values
  -- and log, and none but a front or a yes where the log shows a front
  pub can : IsProblem given.posed.problem
  pub is : IsJudgement asked.texts.top given j
  pub has_status : status ≡ judgement_status j
  pub has_line : line ≡ judgement_line given.posed.problem.design (length given.posed.report.sets) j
  -- with a yes the report's sets are the whole list of the problem, each with values that explain the traces
  pub list : j ≡ OfList verdict.Whole → IsWholeList (claim_of given)
  -- with a front they are one of it, each with such values
  pub front : j ≡ OfList verdict.Front → IsFrontList (claim_of given)

-- a line that is due, with its status: of a judgement, or of a refusal
abbrev pub IsDue : Meaning → Refusing → List (List ℕ) → Suspecting → CheckAsked → Texts → ℕ → List ℕ → Type 0
IsDue M R known S asked texts status line =
    ((j : Judgement) × Judged M known S asked texts j status line) ⊎ Refused M R known S asked texts status line

-- the status of a judgement: 0 of a yes, 1 of a front, 8 of a no
abbrev pub IsAnswer : ℕ → Type 0
IsAnswer status = (status ≡ 0) ⊎ ((status ≡ 1) ⊎ (status ≡ 8))

-- the line of a judgement is printed, and nothing is written
pub record IsAnswered (M : Meaning) (known : List (List ℕ)) (S : Suspecting) (asked : CheckAsked) (run : Run) (status : ℕ) : Type 0 where
  pub judgement : Judgement
  pub line : List ℕ
  pub judged : Judged M known S asked run.texts judgement status line
  pub printed : run.now_printed ≡ run.printed ++ line
  pub nothing_written : run.now_written ≡ run.written

-- ---- the case
-- nothing stands against a judgement: the report's text is that of a report, and for each report that it is of all kinds of suspects
-- are there and nothing stands against the list; the log's text is that of a log; and both are of the inputs
pub record IsReady (M : Meaning) (known : List (List ℕ)) (S : Suspecting) (asked : CheckAsked) (texts : Texts) : Type 0 where
  pub report : Report
  pub means_report : MeansReport asked texts report
  pub kinds : (r : Report) → MeansReport asked texts r → unknown_kind known r ≡ None
  pub list : (r : Report) → MeansReport asked texts r → IsReadyList M S (wanted_by asked r) texts
  pub log : LogText
  pub means_log : MeansLog asked texts log
  pub same : (r : Report) (l : LogText) (inputs : Digest) → MeansReport asked texts r → MeansLog asked texts l
      → IsDigestOf (wanted_by asked r) texts inputs → (r.inputs ≡ inputs) × (l.inputs ≡ inputs)

-- its answers are 0, 1 and 8, and it may write no text
abbrev pub checking : Meaning → Refusing → List (List ℕ) → Suspecting → CheckAsked → Case
checking M R known S asked = record {
  MayAnswer = IsAnswer;
  MayRefuse = IsInputRefusal;
  Answered = λ run status. IsAnswered M known S asked run status;
  Refused = λ run. Refused M R known S asked run.texts;
  Stands = NothingWritten;
  Stopped = λ run. WriteFailed run.counts × LineStops (IsDue M R known S asked run.texts) run;
  Cut = λ run. LineCut run;
  Writes = λ name. ⊥;
  Ready = λ run. IsReady M known S asked run.texts;
}
