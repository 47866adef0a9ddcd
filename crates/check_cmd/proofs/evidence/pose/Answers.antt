use Rattle.std.proofs.Common.{ap, sym, subst, ◌∙◌}
use Rattle.suspect_map.specs.Choose.{joined}
use Rattle.debug_core.specs.Problems.{IsProblem}
use Rattle.load_problem.specs.Asked.{AreKnown, IsAsked}
use Rattle.requests.specs.Asked.{WantedAsked}
use Rattle.requests.specs.Views.{wanted_asked}
use Rattle.load_problem.specs.Inputs.{problem_in}
use Rattle.refusal.specs.Ends.{HasCause, HasStatus, IsSpared}
use Rattle.load_problem.specs.Means.{IsDigestOf, Suspecting}
use Rattle.load_problem.specs.Refusals.{FormRefused, IsReady as IsReadyList, Refused as InputsRefused}
use Rattle.load_problem.proofs.Causes.{form-low}
use Rattle.load_texts.proofs.Loaded.{passed_on}
use Rattle.check_cmd.specs.Asked.{wanted_by}
use Rattle.requests.specs.Views.{check_asked}
use Rattle.check_cmd.specs.Refusals.{Refused}
use Rattle.session_reading.proofs.Causes.{counts-passed, low-counts, low-status, memory-spared}
use Rattle.check_cmd.proofs.Posing.{moved, moved-back, moved-means}
use Rattle.check_cmd.proofs.WholeCauses.{whole-form, whole-inputs}
use Rattle.check_cmd.proofs.evidence.pose.Goals as goal

pub read-requires-clause-asked : goal.read-requires-clause-asked
read-requires-clause-asked g c =
    let asked : IsAsked (wanted_asked c.wanted.result) = subst IsAsked (sym c.wanted.ensures)
    (record { traces = c.requires.traces.1; size = c.in_ok-report.ensures.report.size }) in
    λ κs within. asked

pub read-requires-clause-known : goal.read-requires-clause-known
read-requires-clause-known g c =
    λ κs within.
    subst
    (λ (w : WantedAsked). AreKnown (λ k. (goal.Granularity-dyn g (k.vtable, k.value)).called k.value) c.args.tools.now.kinds.now w)
    (sym c.wanted.ensures) c.in_ok-report.ensures.known

pub returns-in_err-inputs-clause-refused : goal.returns-in_err-inputs-clause-refused
returns-in_err-inputs-clause-refused g c = λ told.
    let asked = check_asked c.args.request.now in
    let S : Suspecting = joined (λ k. (goal.Granularity-dyn g (k.vtable, k.value)).called k.value)
    (λ k. (goal.Granularity-dyn g (k.vtable, k.value)).lists k.value) c.args.tools.now.kinds.now in
    let texts = g.S.Shelf.texts c.args.shelf.now in
    let why = c.in_err-inputs.field-0.0 in
    passed_on (HasCause (Refused g.F.FrontEnd.means g.F.FrontEnd.refuses _ _ asked texts)) c.from_residual-in_err-inputs.result why
    c.from_residual-in_err-inputs.ensures.1
    (whole-inputs g.F.FrontEnd.means g.F.FrontEnd.refuses _ _ asked texts c.in_ok-report.report why (c.in_ok-report.ensures.asks told)
    (moved (λ w ts. HasCause (InputsRefused g.F.FrontEnd.means g.F.FrontEnd.refuses S w ts) why) _
    (wanted_by asked c.in_ok-report.report) _ texts c.wanted.ensures c.in_ok-report.ensures.texts
    (c.in_err-inputs.ensures.refused (c.in_ok-report.ensures.tells ∙ told))))

pub returns-in_err-inputs-clause-only : goal.returns-in_err-inputs-clause-only
returns-in_err-inputs-clause-only g c = λ told ready.
    let asked = check_asked c.args.request.now in
    let S : Suspecting = joined (λ k. (goal.Granularity-dyn g (k.vtable, k.value)).called k.value)
    (λ k. (goal.Granularity-dyn g (k.vtable, k.value)).lists k.value) c.args.tools.now.kinds.now in
    let texts = g.S.Shelf.texts c.args.shelf.now in
    passed_on IsSpared c.from_residual-in_err-inputs.result c.in_err-inputs.field-0.0 c.from_residual-in_err-inputs.ensures.1
    (c.in_err-inputs.ensures.only (c.in_ok-report.ensures.tells ∙ told)
    (moved-back (λ w ts. IsReadyList g.F.FrontEnd.means S w ts) _ (wanted_by asked c.in_ok-report.report) _ texts
    c.wanted.ensures c.in_ok-report.ensures.texts (ready.list c.in_ok-report.report (c.in_ok-report.ensures.asks told).means)))

pub plan_in-requires : goal.plan_in-requires
plan_in-requires g c =
    subst (λ n. IsProblem (problem_in c.in_ok-inputs.inputs n)) (ap (λ (w : WantedAsked). w.size) c.wanted.ensures) c.in_ok-inputs.ensures.problem

pub returns-in_err-plan-clause-counts : goal.returns-in_err-plan-clause-counts
returns-in_err-plan-clause-counts g c =
    counts-passed _ _ c.from_residual-in_err-plan.result c.in_err-plan.field-0.0 c.from_residual-in_err-plan.ensures.1
    (low-counts (FormRefused _) (form-low _) _ _ c.in_err-plan.field-0.0 c.in_err-plan.ensures.refused
    (c.in_ok-inputs.ensures.counts ∙ c.in_ok-report.ensures.counts))

pub returns-in_err-plan-clause-status : goal.returns-in_err-plan-clause-status
returns-in_err-plan-clause-status g c =
    passed_on HasStatus c.from_residual-in_err-plan.result c.in_err-plan.field-0.0 c.from_residual-in_err-plan.ensures.1
    (low-status (FormRefused _) (form-low _) c.in_err-plan.field-0.0 c.in_err-plan.ensures.refused)

pub returns-in_err-plan-clause-refused : goal.returns-in_err-plan-clause-refused
returns-in_err-plan-clause-refused g c = λ told.
    let asked = check_asked c.args.request.now in
    let S : Suspecting = joined (λ k. (goal.Granularity-dyn g (k.vtable, k.value)).called k.value)
    (λ k. (goal.Granularity-dyn g (k.vtable, k.value)).lists k.value) c.args.tools.now.kinds.now in
    let texts = g.S.Shelf.texts c.args.shelf.now in
    let report = c.in_ok-report.report in
    let why = c.in_err-plan.field-0.0 in
    passed_on (HasCause (Refused g.F.FrontEnd.means g.F.FrontEnd.refuses _ _ asked texts)) c.from_residual-in_err-plan.result why
    c.from_residual-in_err-plan.ensures.1
    (whole-form g.F.FrontEnd.means g.F.FrontEnd.refuses _ _ asked texts report (problem_in c.in_ok-inputs.inputs report.size) why
    (c.in_ok-report.ensures.asks told)
    (moved-means g.F.FrontEnd.means S _ (wanted_by asked report) _ texts c.in_ok-inputs.inputs c.wanted.ensures
    c.in_ok-report.ensures.texts (c.in_ok-inputs.ensures.means (c.in_ok-report.ensures.tells ∙ told)))
    c.in_err-plan.ensures.refused)

pub returns-in_err-plan-clause-only : goal.returns-in_err-plan-clause-only
returns-in_err-plan-clause-only g c = λ told ready.
    let asked = check_asked c.args.request.now in
    let S : Suspecting = joined (λ k. (goal.Granularity-dyn g (k.vtable, k.value)).called k.value)
    (λ k. (goal.Granularity-dyn g (k.vtable, k.value)).lists k.value) c.args.tools.now.kinds.now in
    let texts = g.S.Shelf.texts c.args.shelf.now in
    let report = c.in_ok-report.report in
    passed_on IsSpared c.from_residual-in_err-plan.result c.in_err-plan.field-0.0 c.from_residual-in_err-plan.ensures.1
    (memory-spared c.in_err-plan.field-0.0
    (c.in_err-plan.ensures.only
    (λ fault refused.
    (ready.list report (c.in_ok-report.ensures.asks told).means).no_limit (problem_in c.in_ok-inputs.inputs report.size) fault
    (moved-means g.F.FrontEnd.means S _ (wanted_by asked report) _ texts c.in_ok-inputs.inputs c.wanted.ensures
    c.in_ok-report.ensures.texts (c.in_ok-inputs.ensures.means (c.in_ok-report.ensures.tells ∙ told)))
    refused)))

pub returns-clause-can : goal.returns-clause-can
returns-clause-can g c = record {
  problem = subst (λ n. IsProblem (problem_in c.in_ok-inputs.inputs n)) (ap (λ (w : WantedAsked). w.size) c.wanted.ensures)
      c.in_ok-inputs.ensures.problem;
  form = c.in_ok-plan.ensures.form;
  numbers = c.in_ok-inputs.ensures.numbers;
}

pub returns-clause-poses : goal.returns-clause-poses
returns-clause-poses g c = λ told.
    let asked = check_asked c.args.request.now in
    let S : Suspecting = joined (λ k. (goal.Granularity-dyn g (k.vtable, k.value)).called k.value)
    (λ k. (goal.Granularity-dyn g (k.vtable, k.value)).lists k.value) c.args.tools.now.kinds.now in
    let texts = g.S.Shelf.texts c.args.shelf.now in
    let report = c.in_ok-report.report in
    record {
      report = c.in_ok-report.ensures.asks told;
      problem = moved-means g.F.FrontEnd.means S _ (wanted_by asked report) _ texts c.in_ok-inputs.inputs c.wanted.ensures
          c.in_ok-report.ensures.texts (c.in_ok-inputs.ensures.means (c.in_ok-report.ensures.tells ∙ told));
      inputs = moved (λ w ts. IsDigestOf w ts c.in_ok-inputs.inputs.digest) _ (wanted_by asked report) _ texts c.wanted.ensures
          c.in_ok-report.ensures.texts (c.in_ok-inputs.ensures.digest (c.in_ok-report.ensures.tells ∙ told));
      form = c.in_ok-plan.ensures.form;
    }
