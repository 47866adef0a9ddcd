use Rattle.std.proofs.Common.{List, ℕ, Option, subst, sym, ◌∙◌, refl}
use Rattle.std.proofs.lemmas.Bool.{false≢true}
use Rattle.load_texts.proofs.Loaded.{passed_on}
use Rattle.refusal.specs.Ends.{HasCause, HasStatus, IsSpared}
use Rattle.requests.specs.Views.{session_names}
use Rattle.session_reading.specs.Refusals.{LogRefused, OtherRefused, ReportRefused}
use Rattle.session_reading.specs.Texts.{IsLogIn, IsReportIn}
use Rattle.session_reading.proofs.Causes.{counts-passed, low-counts, low-status}
use Rattle.session_reading.proofs.Compared.{other-low}
use Rattle.find_cmd.specs.Parts.{NotGiven}
use Rattle.find_cmd.specs.Sessions.{AreIn, Evidence}
use Rattle.find_cmd.proofs.Taking.{at-name, given-log, given-other, given-report}
use Rattle.find_cmd.proofs.session.load_session.Goals as goal

pub returns-in_err-report-clause-refused : goal.returns-in_err-report-clause-refused
returns-in_err-report-clause-refused g c = λ told.
    let names = session_names c.args.names.now in
    let texts = g.S.Shelf.texts c.args.shelf.now in
    let why = c.in_err-report.field-0.0 in
    passed_on (HasCause (NotGiven names texts c.args.inputs)) c.from_residual.result why c.from_residual.ensures.1
    (given-report names texts c.args.inputs why
    (subst (λ (n : List ℕ). HasCause (ReportRefused n (texts n)) why) c.as_str.ensures.value (c.in_err-report.ensures.refused told)))

pub returns-in_err-report-clause-only : goal.returns-in_err-report-clause-only
returns-in_err-report-clause-only g c = λ told ready.
    let texts = g.S.Shelf.texts c.args.shelf.now in
    let e = ready.is.evidence in
    passed_on IsSpared c.from_residual.result c.in_err-report.field-0.0 c.from_residual.ensures.1
    (c.in_err-report.ensures.only told e.report
    (subst (λ (n : List ℕ). IsReportIn (texts n) e.report) (sym c.as_str.ensures.value) ready.is.in_texts.report))

pub returns-in_err-log-clause-refused : goal.returns-in_err-log-clause-refused
returns-in_err-log-clause-refused g c = λ told.
    let names = session_names c.args.names.now in
    let texts = g.S.Shelf.texts c.args.shelf.now in
    let why = c.in_err-log.field-0.0 in
    passed_on (HasCause (NotGiven names texts c.args.inputs)) c.from_residual-in_err-log.result why c.from_residual-in_err-log.ensures.1
    (given-log names texts c.args.inputs c.in_ok-report.report why
    (subst (λ (n : List ℕ). IsReportIn (texts n) c.in_ok-report.report) c.as_str.ensures.value (c.in_ok-report.ensures.means told))
    (at-name (λ n text. HasCause (LogRefused n text) why) _ names.log _ texts c.as_str-2.ensures.value c.in_ok-report.ensures.texts
    (c.in_err-log.ensures.refused (c.in_ok-report.ensures.tells ∙ told))))

pub returns-in_err-log-clause-only : goal.returns-in_err-log-clause-only
returns-in_err-log-clause-only g c = λ told ready.
    let names = session_names c.args.names.now in
    let texts = g.S.Shelf.texts c.args.shelf.now in
    let e = ready.is.evidence in
    passed_on IsSpared c.from_residual-in_err-log.result c.in_err-log.field-0.0 c.from_residual-in_err-log.ensures.1
    (c.in_err-log.ensures.only (c.in_ok-report.ensures.tells ∙ told) e.log
    (at-name (λ n text. IsLogIn text e.log) names.log _ texts _ (sym c.as_str-2.ensures.value) (sym c.in_ok-report.ensures.texts)
    ready.is.in_texts.log))

pub returns-in_err-same_inputs-clause-counts : goal.returns-in_err-same_inputs-clause-counts
returns-in_err-same_inputs-clause-counts g c =
    counts-passed _ _ c.from_residual-in_err-same_inputs.result c.in_err-same_inputs.field-0.0
    c.from_residual-in_err-same_inputs.ensures.1
    (low-counts (OtherRefused _) (other-low _) _ _ c.in_err-same_inputs.field-0.0 c.in_err-same_inputs.ensures.refused
    (c.in_ok-log.ensures.counts ∙ c.in_ok-report.ensures.counts))

pub returns-in_err-same_inputs-clause-status : goal.returns-in_err-same_inputs-clause-status
returns-in_err-same_inputs-clause-status g c =
    passed_on HasStatus c.from_residual-in_err-same_inputs.result c.in_err-same_inputs.field-0.0
    c.from_residual-in_err-same_inputs.ensures.1
    (low-status (OtherRefused _) (other-low _) c.in_err-same_inputs.field-0.0 c.in_err-same_inputs.ensures.refused)

pub returns-in_err-same_inputs-clause-refused : goal.returns-in_err-same_inputs-clause-refused
returns-in_err-same_inputs-clause-refused g c = λ told.
    let names = session_names c.args.names.now in
    let texts = g.S.Shelf.texts c.args.shelf.now in
    let why = c.in_err-same_inputs.field-0.0 in
    let e : Evidence = record { report = c.in_ok-report.report; log = c.in_ok-log.log } in
    passed_on (HasCause (NotGiven names texts c.args.inputs)) c.from_residual-in_err-same_inputs.result why
    c.from_residual-in_err-same_inputs.ensures.1
    (given-other names texts c.args.inputs e why
    (record {
      report = subst (λ (n : List ℕ). IsReportIn (texts n) e.report) c.as_str.ensures.value (c.in_ok-report.ensures.means told);
      log = at-name (λ n text. IsLogIn text e.log) _ names.log _ texts c.as_str-2.ensures.value c.in_ok-report.ensures.texts
          (c.in_ok-log.ensures.means (c.in_ok-report.ensures.tells ∙ told));
    })
    c.in_err-same_inputs.ensures.refused)

pub returns-in_err-same_inputs-clause-only : goal.returns-in_err-same_inputs-clause-only
returns-in_err-same_inputs-clause-only g c = λ told ready.
    let names = session_names c.args.names.now in
    let texts = g.S.Shelf.texts c.args.shelf.now in
    let e : Evidence = record { report = c.in_ok-report.report; log = c.in_ok-log.log } in
    absurd
    (false≢true
    (c.in_err-same_inputs.ensures.only
    (ready.is.same e
    (record {
      report = subst (λ (n : List ℕ). IsReportIn (texts n) e.report) c.as_str.ensures.value (c.in_ok-report.ensures.means told);
      log = at-name (λ n text. IsLogIn text e.log) _ names.log _ texts c.as_str-2.ensures.value c.in_ok-report.ensures.texts
          (c.in_ok-log.ensures.means (c.in_ok-report.ensures.tells ∙ told));
    }))))

pub returns-clause-means : goal.returns-clause-means
returns-clause-means g c = λ told.
    let names = session_names c.args.names.now in
    let texts = g.S.Shelf.texts c.args.shelf.now in
    record {
      report = subst (λ (n : List ℕ). IsReportIn (texts n) c.in_ok-report.report) c.as_str.ensures.value
          (c.in_ok-report.ensures.means told);
      log = at-name (λ n text. IsLogIn text c.in_ok-log.log) _ names.log _ texts c.as_str-2.ensures.value c.in_ok-report.ensures.texts
          (c.in_ok-log.ensures.means (c.in_ok-report.ensures.tells ∙ told));
    }
