-- A list that is to be judged: a problem and its form, sets of a report, and a log that is to show that they are the list.
use Rattle.std.specs.Prelude.{ℕ, ◌≡◌, ◌+◌, ◌-◌, ◌<◌, ◌≤◌, ◌^◌, List, length, slice_get, Some}
use Rattle.design_core.specs.declared.values.Values.{Values}
use Rattle.clause_base.specs.declared.literal.Lit.{Lit}
use Rattle.clause_base.specs.declared.log.Step.{Step}
use Rattle.report_doc.specs.declared.types.ReportSet.{ReportSet}
use Rattle.report_sets.specs.Written.{IsWritten}
use Rattle.debug_core.specs.Problems.{Problem, IsFormFor, IsProblem, problem_of, suspects_of}
use Rattle.list_verdict.specs.declared.verdict.Listed.{Listed}

pub record Claim : Type 0 where
  pub problem : Problem
  pub form : List (List Lit)
  pub sets : List ReportSet
  pub log : List Step

abbrev pub claim_of : Listed → Claim
claim_of l = record {
  problem = problem_of l.question.now;
  form = l.plan.now.clauses;
  sets = l.sets.now;
  log = l.log.now;
}

-- what can be judged: the problem can be asked, the form is the problem's, and there are numbers of 32 bits for the sets, the steps,
-- the traces and the outputs
pub record CanBeJudged (l : Listed) : Type 0 where
  pub problem : IsProblem (problem_of l.question.now)
  pub form : IsFormFor (problem_of l.question.now) l.plan.now.vars l.plan.now.clauses
  pub few_sets : length l.sets.now < 2 ^ 32
  pub few_steps : length l.log.now + 1 < 2 ^ 32
  pub few_traces : length l.question.now.traces.now < 2 ^ 32
  pub few_outputs : length l.question.now.design.now.outputs.items < 2 ^ 32

-- the set of a number, from 1
pub record IsSetAt (sets : List ReportSet) (number : ℕ) (set : ReportSet) : Type 0 where
  pub counted : 1 ≤ number
  pub is : slice_get sets (number - 1) ≡ Some set

-- the values that the texts of a set of the list say
abbrev pub AreItsValues : Claim → ReportSet → Values → Type 0
AreItsValues c set values = IsWritten c.problem.design c.problem.traces (suspects_of c.problem) set values
