use Rattle.std.proofs.Common.{List, ℕ, ◌∙◌, subst, sym}
use Rattle.std.proofs.lemmas.Bool.{false≢true}
use Rattle.refusal.specs.Ends.{HasCause, HasStatus, IsSpared}
use Rattle.load_texts.proofs.Loaded.{passed_on}
use Rattle.requests.specs.Views.{check_asked}
use Rattle.check_cmd.specs.Parts.{KindRefused}
use Rattle.session_reading.specs.Refusals.{ReportRefused}
use Rattle.session_reading.specs.Texts.{IsReportIn}
use Rattle.check_cmd.specs.Refusals.{Refused}
use Rattle.session_reading.proofs.Causes.{counts-passed, low-counts, low-status}
use Rattle.check_cmd.proofs.KindNames.{unknown-names}
use Rattle.check_cmd.proofs.WholeCauses.{kind-low, whole-kind, whole-report}
use Rattle.check_cmd.proofs.evidence.ask.Goals as goal

pub returns-in_err-report-clause-refused : goal.returns-in_err-report-clause-refused
returns-in_err-report-clause-refused g c = λ told.
    let asked = check_asked c.args.request.now in
    let texts = g.S.Shelf.texts c.args.shelf.now in
    passed_on (HasCause (Refused g.F.FrontEnd.means g.F.FrontEnd.refuses _ _ asked texts)) c.from_residual.result
    c.in_err-report.field-0.0 c.from_residual.ensures.1
    (whole-report g.F.FrontEnd.means g.F.FrontEnd.refuses _ _ asked texts c.in_err-report.field-0.0
    (subst (λ (n : List ℕ). HasCause (ReportRefused n (texts n)) c.in_err-report.field-0.0) c.as_str.ensures.value (c.in_err-report.ensures.refused told)))

pub returns-in_err-report-clause-only : goal.returns-in_err-report-clause-only
returns-in_err-report-clause-only g c = λ told ready.
    passed_on IsSpared c.from_residual.result c.in_err-report.field-0.0 c.from_residual.ensures.1
    (c.in_err-report.ensures.only told ready.report
    (subst (λ (n : List ℕ). IsReportIn (g.S.Shelf.texts c.args.shelf.now n) ready.report) (sym c.as_str.ensures.value) ready.means_report))

pub returns-in_err-know-clause-counts : goal.returns-in_err-know-clause-counts
returns-in_err-know-clause-counts g c =
    counts-passed _ _ c.from_residual-in_err-know.result c.in_err-know.field-0.0 c.from_residual-in_err-know.ensures.1
    (low-counts (KindRefused _) (kind-low _) _ _ c.in_err-know.field-0.0 c.in_err-know.ensures.refused c.in_ok-report.ensures.counts)

pub returns-in_err-know-clause-status : goal.returns-in_err-know-clause-status
returns-in_err-know-clause-status g c =
    passed_on HasStatus c.from_residual-in_err-know.result c.in_err-know.field-0.0 c.from_residual-in_err-know.ensures.1
    (low-status (KindRefused _) (kind-low _) c.in_err-know.field-0.0 c.in_err-know.ensures.refused)

pub returns-in_err-know-clause-refused : goal.returns-in_err-know-clause-refused
returns-in_err-know-clause-refused g c = λ told.
    let asked = check_asked c.args.request.now in
    let texts = g.S.Shelf.texts c.args.shelf.now in
    passed_on (HasCause (Refused g.F.FrontEnd.means g.F.FrontEnd.refuses _ _ asked texts)) c.from_residual-in_err-know.result
    c.in_err-know.field-0.0 c.from_residual-in_err-know.ensures.1
    (whole-kind g.F.FrontEnd.means g.F.FrontEnd.refuses _ _ asked texts c.in_ok-report.report _ c.in_err-know.field-0.0
    (subst (λ (n : List ℕ). IsReportIn (texts n) c.in_ok-report.report) c.as_str.ensures.value (c.in_ok-report.ensures.means told)) (unknown-names (λ k. (goal.Granularity-dyn g (k.vtable, k.value)).called k.value)
    c.args.tools.now.kinds.now c.in_ok-report.report.kinds) c.in_err-know.ensures.refused)

pub returns-in_err-know-clause-only : goal.returns-in_err-know-clause-only
returns-in_err-know-clause-only g c = λ told ready.
    absurd
    (false≢true
    (c.in_err-know.ensures.only
    (sym (unknown-names (λ k. (goal.Granularity-dyn g (k.vtable, k.value)).called k.value)
    c.args.tools.now.kinds.now c.in_ok-report.report.kinds) ∙ ready.kinds c.in_ok-report.report
    (subst (λ (n : List ℕ). IsReportIn (g.S.Shelf.texts c.args.shelf.now n) c.in_ok-report.report) c.as_str.ensures.value (c.in_ok-report.ensures.means told)))))

pub returns-clause-asks : goal.returns-clause-asks
returns-clause-asks g c = λ told. record {
  means = subst (λ (n : List ℕ). IsReportIn (g.S.Shelf.texts c.args.shelf.now n) c.in_ok-report.report) c.as_str.ensures.value
      (c.in_ok-report.ensures.means told);
  known_kinds = unknown-names (λ k. (goal.Granularity-dyn g (k.vtable, k.value)).called k.value)
      c.args.tools.now.kinds.now c.in_ok-report.report.kinds ∙ c.in_ok-know.ensures.known;
}
