-- Private, for the functions inside this crate: why one step of a check gives nothing, and what is judged of what was read.
use Rattle.std.specs.Prelude.{ℕ, ◌≡◌, ◌<◌, ◌+◌, ◌^◌, List, length, Option, Some}
use Rattle.debug_core.specs.Problems.{IsFormFor, IsProblem}
use Rattle.load_problem.specs.Inputs.{HaveNumbers, problem_in}
use Rattle.list_verdict.specs.declared.verdict.Verdict.TheVariants as verdict
use Rattle.list_verdict.specs.Verdicts.{IsFrontList, IsWholeList}
use Rattle.check_cmd.specs.declared.evidence.Evidence.{Evidence}
use Rattle.check_cmd.specs.declared.evidence.Posed.{Posed as PosedInCode}
use Rattle.session_reading.specs.declared.digests.Digests.{Digests}
use Rattle.check_cmd.specs.declared.run.Answer.{Answer}
use Rattle.check_cmd.specs.declared.verdicts.Judgement.{Judgement}
use Rattle.check_cmd.specs.declared.verdicts.Judgement.TheVariants.{OfList}
use Rattle.check_cmd.specs.Checking.{IsJudgement}
use Rattle.check_cmd.specs.Lines.{judgement_line, judgement_status}
use Rattle.check_cmd.specs.Means.{Given, Posed, claim_of}
use Rattle.check_cmd.specs.Refusals.{kind_line}

-- ---- what comes after the texts
-- the first name of a kind that isn't there
pub data KindRefused (first : Option (List ℕ)) : ℕ → List ℕ → Type 0 where
  first_name : (name : List ℕ) → first ≡ Some name → KindRefused first 3 (kind_line name)

-- ---- what was read
abbrev pub posed_of : PosedInCode → Posed
posed_of p = record {
  report = p.report;
  problem = problem_in p.inputs p.report.size;
  inputs = p.inputs.digest;
  vars = p.plan.vars;
  form = p.plan.clauses;
}

abbrev pub given_of : Evidence → Given
given_of e = record { posed = posed_of e.posed; log = e.log }

abbrev pub digests_of : Given → Digests
digests_of g = record { report = g.posed.report.inputs; log = g.log.inputs; inputs = g.posed.inputs }

-- what was read can be judged
pub record CanBePosed (p : PosedInCode) : Type 0 where
  pub problem : IsProblem (posed_of p).problem
  pub form : IsFormFor (posed_of p).problem (posed_of p).vars (posed_of p).form
  pub numbers : HaveNumbers p.inputs

pub record IsEvidence (e : Evidence) : Type 0 where
  pub posed : CanBePosed e.posed
  pub few_steps : length e.log.log + 1 < 2 ^ 32

-- a yes says that the sets are the whole list
abbrev pub IsListIf : Given → Judgement → Type 0
IsListIf g j = j ≡ OfList verdict.Whole → IsWholeList (claim_of g)

-- and a front that they are the first of it
abbrev pub IsFrontIf : Given → Judgement → Type 0
IsFrontIf g j = j ≡ OfList verdict.Front → IsFrontList (claim_of g)

-- the answer is what is judged
pub record Answers (top : List ℕ) (g : Given) (answer : Answer) : Type 0 where
  pub judgement : Judgement
  pub is : IsJudgement top g judgement
  pub list : IsListIf g judgement
  pub front : IsFrontIf g judgement
  pub status : answer.status ≡ judgement_status judgement
  pub line : answer.line.items ≡ judgement_line g.posed.problem.design (length g.posed.report.sets) judgement
