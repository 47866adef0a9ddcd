-- What a list goes on from: a session, which is the report and the log that an earlier run of the same inputs left. A list that goes on
-- from none begins with no set, and with an empty log.
use Rattle.std.specs.Prelude.{ℕ, ◌≡◌, List, Option, Some, None}
use Rattle.loc_base.specs.declared.digest.Digest.{Digest}
use Rattle.clause_base.specs.declared.literal.Lit.{Lit}
use Rattle.command_contract.specs.Contract.{Texts}
use Rattle.front_end.specs.Means.{Meaning}
use Rattle.report_doc.specs.declared.types.Report.{Report}
use Rattle.proof_check.specs.declared.types.LogText.{LogText}
use Rattle.debug_core.specs.Problems.{IsFormFor, Problem}
use Rattle.load_problem.specs.Means.{IsDigestOf, Means, Suspecting}
use Rattle.list_verdict.specs.Claims.{Claim}
use Rattle.list_session.specs.Taken.{IsTakenUp}
use Rattle.session_reading.specs.declared.digests.Digests.{Digests}
use Rattle.session_reading.specs.Refusals.{AreSame}
use Rattle.session_reading.specs.Texts.{IsLogIn, IsReportIn}
use Rattle.list_writer.specs.Asked.{Session, no_session}
use Rattle.requests.specs.Asked.{SessionNames, WantedAsked}

-- ---- what is asked
-- a problem, the number of variables and the clauses of its form, and the digest of the inputs
pub record Posed : Type 0 where
  pub problem : Problem
  pub vars : ℕ
  pub form : List (List Lit)
  pub inputs : Digest

-- the texts mean the problem and the digest, and the problem has this form
pub record Poses (M : Meaning) (S : Suspecting) (asked : WantedAsked) (texts : Texts) (p : Posed) : Type 0 where
  pub means : Means M S asked texts p.problem
  pub form : IsFormFor p.problem p.vars p.form
  pub digest : IsDigestOf asked texts p.inputs

-- ---- a session
-- a report and a log
pub record Evidence : Type 0 where
  pub report : Report
  pub log : LogText

-- the texts under the names are that of the report and that of the log
pub record AreIn (names : SessionNames) (texts : Texts) (e : Evidence) : Type 0 where
  pub report : IsReportIn (texts names.report) e.report
  pub log : IsLogIn (texts names.log) e.log

-- the digests of the inputs that report and log say, beside that of the inputs
abbrev pub digests_of : Digest → Evidence → Digests
digests_of inputs e = record { report = e.report.inputs; log = e.log.inputs; inputs = inputs }

-- what is judged of them: that the report's sets are the first of the problem's list, as the log shows
abbrev pub claim_of : Problem → List (List Lit) → Evidence → Claim
claim_of p form e = record { problem = p; form = form; sets = e.report.sets; log = e.log.log }

-- ---- what a listing begins with
-- the sets and the steps of a report and a log that the texts are, both of the inputs. The sets are in order, none holds another, each
-- makes the traces right by the values that its texts say, the log is accepted with their blocks, and it shows that no set is missing
-- before the last one
pub record IsSessionOf (names : SessionNames) (texts : Texts) (p : Posed) (session : Session) : Type 0 where
  pub evidence : Evidence
  pub in_texts : AreIn names texts evidence
  pub same : AreSame (digests_of p.inputs evidence)
  pub taken : IsTakenUp (claim_of p.problem p.form evidence) session.sets
  pub log : session.log ≡ evidence.log.log

-- the listing of a problem of these inputs begins with the session of the names, by the problem's form
pub record BeginsWith (names : SessionNames) (texts : Texts) (p : Problem) (inputs : Digest) (session : Session) : Type 0 where
  pub vars : ℕ
  pub form : List (List Lit)
  pub is_form : IsFormFor p vars form
  pub is : IsSessionOf names texts (record { problem = p; vars = vars; form = form; inputs = inputs }) session

-- it begins with that of the names that are asked for, if any are, and else with none
abbrev pub MeansSession : Option SessionNames → Texts → Problem → Digest → Session → Type 0
MeansSession None texts p inputs session = session ≡ no_session
MeansSession (Some names) texts p inputs session = BeginsWith names texts p inputs session
