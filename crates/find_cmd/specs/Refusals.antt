-- Why nothing is listed, in the order in which the causes are looked for: the inputs, and the limits of the form of their problem
-- (`load_problem`); and, where a list goes on from a session, the text of its report, the text of its log, the digests of both, and the
-- conditions under which it is gone on from. What is printed, and the status.
use Rattle.std.specs.Prelude.{ℕ, ◌≡◌, List, Some}
use Rattle.command_contract.specs.Contract.{Texts}
use Rattle.front_end.specs.Means.{Meaning, Refusing}
use Rattle.report_doc.specs.declared.types.Report.{Report}
use Rattle.load_problem.specs.Means.{Suspecting}
use Rattle.load_problem.specs.Refusals.{IsReady as AreInputsReady, Refused as InputsRefused}
use Rattle.list_verdict.specs.Verdicts.{IsFrontShown}
use Rattle.session_reading.specs.Refusals.{AreSame, LogRefused, OtherRefused, ReportRefused}
use Rattle.session_reading.specs.Texts.{IsReportIn}
use Rattle.list_session.specs.Unfit.{UnfitRefused}
use Rattle.requests.specs.Asked.{FindAsked, SessionNames, wanted_for}
use Rattle.find_cmd.specs.Sessions.{AreIn, Evidence, Posed, Poses, claim_of, digests_of}

-- ---- refusals
-- a session is refused, for what is asked: what stands before the cause in the order has its value
pub data SessionRefused (names : SessionNames) (texts : Texts) (p : Posed) : ℕ → List ℕ → Type 0 where
  for_report : (status : ℕ) (line : List ℕ) → ReportRefused names.report (texts names.report) status line
      → SessionRefused names texts p status line
  for_log : (report : Report) (status : ℕ) (line : List ℕ) → IsReportIn (texts names.report) report
      → LogRefused names.log (texts names.log) status line → SessionRefused names texts p status line
  for_other : (e : Evidence) (status : ℕ) (line : List ℕ) → AreIn names texts e → OtherRefused (digests_of p.inputs e) status line
      → SessionRefused names texts p status line
  for_unfit : (e : Evidence) (status : ℕ) (line : List ℕ) → AreIn names texts e → AreSame (digests_of p.inputs e)
      → UnfitRefused (claim_of p.problem p.form e) status line → SessionRefused names texts p status line

-- a refusal with its status and its line: that of the inputs, or, where they mean a problem that passes no limit, that of the session
pub data Refused (M : Meaning) (R : Refusing) (S : Suspecting) (asked : FindAsked) (texts : Texts) : ℕ → List ℕ → Type 0 where
  for_inputs : (status : ℕ) (line : List ℕ) → InputsRefused M R S (wanted_for asked) texts status line
      → Refused M R S asked texts status line
  for_session : (names : SessionNames) (p : Posed) (status : ℕ) (line : List ℕ) → asked.resume ≡ Some names
      → Poses M S (wanted_for asked) texts p → SessionRefused names texts p status line → Refused M R S asked texts status line

-- ---- what nothing stands against
-- a session, for what is asked: its texts are those of a report and of a log, and each report and log that they are is of the inputs,
-- with sets that are in order, hold none of each other and make the traces right, and that the log shows to be the first of the list
pub record IsSessionReady (names : SessionNames) (texts : Texts) (p : Posed) : Type 0 where
  pub evidence : Evidence
  pub in_texts : AreIn names texts evidence
  pub same : (e : Evidence) → AreIn names texts e → AreSame (digests_of p.inputs e)
  pub front : (e : Evidence) → AreIn names texts e → IsFrontShown (claim_of p.problem p.form e)

-- a list: nothing stands against its inputs, nor, where it goes on from a session, against that for what they mean
pub record IsReady (M : Meaning) (S : Suspecting) (asked : FindAsked) (texts : Texts) : Type 0 where
  pub inputs : AreInputsReady M S (wanted_for asked) texts
  pub session : (names : SessionNames) (p : Posed) → asked.resume ≡ Some names → Poses M S (wanted_for asked) texts p
      → IsSessionReady names texts p
