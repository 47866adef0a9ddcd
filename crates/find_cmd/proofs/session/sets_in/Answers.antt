use Rattle.std.proofs.Common.{◌<◌, ◌^◌, List, length, sym, subst, arith}
use Rattle.debug_core.specs.Problems.{problem_of}
use Rattle.list_session.specs.Taken.{IsTakenUp}
use Rattle.list_session.specs.Unfit.{UnfitRefused}
use Rattle.list_session.proofs.Chains.{read-chainless}
use Rattle.list_verdict.specs.Verdicts.{IsFrontShown}
use Rattle.refusal.specs.Ends.{HasCause}
use Rattle.report_doc.specs.declared.types.ReportSet.{ReportSet}
use Rattle.session_reading.proofs.Causes.{err-of, ok-of}
use Rattle.find_cmd.proofs.Taking.{claim-with}
use Rattle.find_cmd.proofs.session.sets_in.Goals as goal

pub session_sets-requires-clause-chainless : goal.session_sets-requires-clause-chainless
session_sets-requires-clause-chainless g c = λ κs within. read-chainless c.args.given.now.log c.requires.log

pub session_sets-requires-clause-can : goal.session_sets-requires-clause-can
session_sets-requires-clause-can g c = λ κs within. record {
  problem = c.requires.problem;
  form = c.requires.form;
  few_sets = subst (λ (sets : List ReportSet). length sets < 2 ^ 32) (sym c.as_slice.ensures) (omega (arith, c.requires.few_sets));
  few_steps = omega (arith, c.requires.few_steps);
  few_traces = c.requires.few.traces;
  few_outputs = c.requires.few.outputs;
}

pub returns-clause-taken : goal.returns-clause-taken
returns-clause-taken g c =
    let job = c.args.job.now in
    let log = c.args.given.now.log.log in
    ok-of _ _ c.session_sets.result
    (λ found is. subst
    (λ (sets : List ReportSet). IsTakenUp (claim-with (problem_of job.question) c.args.plan.now.clauses log sets) found.items)
    c.as_slice.ensures is)
    c.session_sets.ensures.taken

pub returns-clause-refused : goal.returns-clause-refused
returns-clause-refused g c =
    let job = c.args.job.now in
    let log = c.args.given.now.log.log in
    err-of _ _ c.session_sets.result
    (λ why is. subst
    (λ (sets : List ReportSet). HasCause (UnfitRefused (claim-with (problem_of job.question) c.args.plan.now.clauses log sets)) why)
    c.as_slice.ensures is)
    c.session_sets.ensures.refused

pub returns-clause-only : goal.returns-clause-only
returns-clause-only g c = λ fit.
    let job = c.args.job.now in
    let log = c.args.given.now.log.log in
    c.session_sets.ensures.only
    (subst (λ (sets : List ReportSet). IsFrontShown (claim-with (problem_of job.question) c.args.plan.now.clauses log sets))
    (sym c.as_slice.ensures) fit)
