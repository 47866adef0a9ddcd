use Rattle.std.proofs.Common.{refl}
use Rattle.debug_core.specs.Problems.{problem_of}
use Rattle.list_session.specs.Unfit.{UnfitRefused}
use Rattle.load_problem.specs.Refusals.{FormRefused}
use Rattle.load_problem.proofs.Causes.{form-low}
use Rattle.load_texts.proofs.Loaded.{passed_on}
use Rattle.refusal.specs.Ends.{HasCause, HasStatus, IsSpared}
use Rattle.requests.specs.Views.{session_names}
use Rattle.session_reading.proofs.Causes.{counts-passed, low-counts, low-status, memory-spared}
use Rattle.find_cmd.specs.Parts.{NotTaken, evidence_of}
use Rattle.find_cmd.proofs.Taking.{begins-with, is-taken, taken-given, taken-limit, taken-unfit, unfit-low}
use Rattle.find_cmd.proofs.session.take_session.Goals as goal

pub returns-in_err-plan-clause-counts : goal.returns-in_err-plan-clause-counts
returns-in_err-plan-clause-counts g c =
    counts-passed _ _ c.from_residual.result c.in_err-plan.field-0.0 c.from_residual.ensures.1
    (low-counts (FormRefused _) (form-low _) _ _ c.in_err-plan.field-0.0 c.in_err-plan.ensures.refused refl)

pub returns-in_err-plan-clause-status : goal.returns-in_err-plan-clause-status
returns-in_err-plan-clause-status g c =
    passed_on HasStatus c.from_residual.result c.in_err-plan.field-0.0 c.from_residual.ensures.1
    (low-status (FormRefused _) (form-low _) c.in_err-plan.field-0.0 c.in_err-plan.ensures.refused)

pub returns-in_err-plan-clause-refused : goal.returns-in_err-plan-clause-refused
returns-in_err-plan-clause-refused g c = λ told.
    let names = session_names c.args.names.now in
    let texts = g.S.Shelf.texts c.args.shelf.now in
    let job = c.args.job.now in
    let why = c.in_err-plan.field-0.0 in
    passed_on (HasCause (NotTaken names texts (problem_of job.question) job.inputs)) c.from_residual.result why
    c.from_residual.ensures.1
    (taken-limit names texts (problem_of job.question) job.inputs why c.in_err-plan.ensures.refused)

pub returns-in_err-plan-clause-only : goal.returns-in_err-plan-clause-only
returns-in_err-plan-clause-only g c = λ told can.
    passed_on IsSpared c.from_residual.result c.in_err-plan.field-0.0 c.from_residual.ensures.1
    (memory-spared c.in_err-plan.field-0.0 (c.in_err-plan.ensures.only can.no_limit))

pub returns-in_err-given-clause-refused : goal.returns-in_err-given-clause-refused
returns-in_err-given-clause-refused g c = λ told.
    let names = session_names c.args.names.now in
    let texts = g.S.Shelf.texts c.args.shelf.now in
    let job = c.args.job.now in
    let plan = c.in_ok-plan.plan in
    let why = c.in_err-given.field-0.0 in
    passed_on (HasCause (NotTaken names texts (problem_of job.question) job.inputs)) c.from_residual-in_err-given.result why
    c.from_residual-in_err-given.ensures.1
    (taken-given names texts (problem_of job.question) job.inputs plan.vars plan.clauses why c.in_ok-plan.ensures.form
    (c.in_err-given.ensures.refused told))

pub returns-in_err-given-clause-only : goal.returns-in_err-given-clause-only
returns-in_err-given-clause-only g c = λ told can.
    let job = c.args.job.now in
    let plan = c.in_ok-plan.plan in
    passed_on IsSpared c.from_residual-in_err-given.result c.in_err-given.field-0.0 c.from_residual-in_err-given.ensures.1
    (c.in_err-given.ensures.only told (record {
      problem = problem_of job.question;
      vars = plan.vars;
      form = plan.clauses;
      is = can.session plan.vars plan.clauses c.in_ok-plan.ensures.form;
    }))

pub returns-in_err-found-clause-counts : goal.returns-in_err-found-clause-counts
returns-in_err-found-clause-counts g c =
    counts-passed _ _ c.from_residual-in_err-found.result c.in_err-found.field-0.0 c.from_residual-in_err-found.ensures.1
    (low-counts (UnfitRefused _) (unfit-low _) _ _ c.in_err-found.field-0.0 c.in_err-found.ensures.refused c.in_ok-given.ensures.counts)

pub returns-in_err-found-clause-refused : goal.returns-in_err-found-clause-refused
returns-in_err-found-clause-refused g c = λ told.
    let names = session_names c.args.names.now in
    let texts = g.S.Shelf.texts c.args.shelf.now in
    let job = c.args.job.now in
    let plan = c.in_ok-plan.plan in
    let why = c.in_err-found.field-0.0 in
    passed_on (HasCause (NotTaken names texts (problem_of job.question) job.inputs)) c.from_residual-in_err-found.result why
    c.from_residual-in_err-found.ensures.1
    (taken-unfit names texts (problem_of job.question) job.inputs plan.vars plan.clauses (evidence_of c.in_ok-given.given) why
    c.in_ok-plan.ensures.form (c.in_ok-given.ensures.means told) c.in_ok-given.ensures.same c.in_err-found.ensures.refused)

pub returns-in_err-found-clause-only : goal.returns-in_err-found-clause-only
returns-in_err-found-clause-only g c = λ told can.
    let plan = c.in_ok-plan.plan in
    passed_on IsSpared c.from_residual-in_err-found.result c.in_err-found.field-0.0 c.from_residual-in_err-found.ensures.1
    (memory-spared c.in_err-found.field-0.0
    (c.in_err-found.ensures.only
    ((can.session plan.vars plan.clauses c.in_ok-plan.ensures.form).front (evidence_of c.in_ok-given.given)
    (c.in_ok-given.ensures.means told))))

pub returns-clause-taken : goal.returns-clause-taken
returns-clause-taken g c =
    let plan = c.in_ok-plan.plan in
    is-taken (problem_of c.args.job.now.question) plan.vars plan.clauses (evidence_of c.in_ok-given.given) c.in_ok-found.found.items
    c.in_ok-plan.ensures.form c.in_ok-found.ensures.taken c.in_ok-given.ensures.few_sets c.in_ok-given.ensures.few_steps

pub returns-clause-session : goal.returns-clause-session
returns-clause-session g c = λ told.
    let job = c.args.job.now in
    let plan = c.in_ok-plan.plan in
    begins-with (session_names c.args.names.now) (g.S.Shelf.texts c.args.shelf.now) (problem_of job.question) plan.vars plan.clauses
    job.inputs (evidence_of c.in_ok-given.given) c.in_ok-found.found.items c.in_ok-plan.ensures.form (c.in_ok-given.ensures.means told)
    c.in_ok-given.ensures.same c.in_ok-found.ensures.taken
