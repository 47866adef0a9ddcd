-- What the texts mean: a report, the problem that it is of with that problem's form, the digest of the inputs, and a log.
use Rattle.std.specs.Prelude.{ℕ, ◌≡◌, List, Option, None}
use Rattle.loc_base.specs.declared.digest.Digest.{Digest}
use Rattle.clause_base.specs.declared.literal.Lit.{Lit}
use Rattle.command_contract.specs.Contract.{Texts}
use Rattle.suspect_map.specs.Choose.{unknown}
use Rattle.front_end.specs.Means.{Meaning}
use Rattle.report_doc.specs.declared.types.Report.{Report}
use Rattle.proof_check.specs.declared.types.LogText.{LogText}
use Rattle.session_reading.specs.Texts.{IsLogIn, IsReportIn}
use Rattle.debug_core.specs.Problems.{IsFormFor, Problem}
use Rattle.load_problem.specs.Means.{IsDigestOf, Means as MeansProblem, Suspecting}
use Rattle.list_verdict.specs.Claims.{Claim}
use Rattle.check_cmd.specs.Asked.{wanted_by}
use Rattle.requests.specs.Asked.{CheckAsked}

-- ---- texts
-- the text under the report's name is that of a report
abbrev pub MeansReport : CheckAsked → Texts → Report → Type 0
MeansReport asked texts report = IsReportIn (texts asked.report) report

-- and the text under the log's name
abbrev pub MeansLog : CheckAsked → Texts → LogText → Type 0
MeansLog asked texts log = IsLogIn (texts asked.log) log

-- ---- a report by which a list can be asked
-- the first of its kinds of suspects that isn't among those that are there, if there is one
abbrev pub unknown_kind : List (List ℕ) → Report → Option (List ℕ)
unknown_kind known report = unknown (λ name. name) known report.kinds

pub record Asks (known : List (List ℕ)) (asked : CheckAsked) (texts : Texts) (report : Report) : Type 0 where
  pub means : MeansReport asked texts report
  pub known_kinds : unknown_kind known report ≡ None

-- ---- all of them
-- a report, a problem with the number of variables and the clauses of its form, and the digest of the inputs
pub record Posed : Type 0 where
  pub report : Report
  pub problem : Problem
  pub inputs : Digest
  pub vars : ℕ
  pub form : List (List Lit)

-- the texts mean the problem that the report is of, and it has this form
pub record Poses (M : Meaning) (known : List (List ℕ)) (S : Suspecting) (asked : CheckAsked) (texts : Texts) (p : Posed) : Type 0 where
  pub report : Asks known asked texts p.report
  pub problem : MeansProblem M S (wanted_by asked p.report) texts p.problem
  pub inputs : IsDigestOf (wanted_by asked p.report) texts p.inputs
  pub form : IsFormFor p.problem p.vars p.form

-- and a log
pub record Given : Type 0 where
  pub posed : Posed
  pub log : LogText

pub record Means (M : Meaning) (known : List (List ℕ)) (S : Suspecting) (asked : CheckAsked) (texts : Texts) (g : Given) : Type 0 where
  pub poses : Poses M known S asked texts g.posed
  pub log : MeansLog asked texts g.log

-- report and log are of these inputs
pub record AreOfInputs (g : Given) : Type 0 where
  pub report : g.posed.report.inputs ≡ g.posed.inputs
  pub log : g.log.inputs ≡ g.posed.inputs

-- what is to be judged
abbrev pub claim_of : Given → Claim
claim_of g = record { problem = g.posed.problem; form = g.posed.form; sets = g.posed.report.sets; log = g.log.log }
