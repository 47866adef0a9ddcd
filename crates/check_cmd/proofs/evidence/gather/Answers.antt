use Rattle.std.proofs.Common.{List, ℕ, subst, sym, ◌∙◌}
use Rattle.std.proofs.lemmas.Bool.{false≢true}
use Rattle.command_contract.specs.Contract.{Texts}
use Rattle.refusal.specs.Ends.{HasCause, HasStatus, IsSpared}
use Rattle.load_texts.proofs.Loaded.{passed_on}
use Rattle.requests.specs.Views.{check_asked}
use Rattle.check_cmd.specs.Means.{Given}
use Rattle.session_reading.specs.Refusals.{LogRefused, OtherRefused}
use Rattle.session_reading.specs.Texts.{IsLogIn}
use Rattle.session_reading.proofs.Compared.{other-low}
use Rattle.check_cmd.specs.Parts.{posed_of}
use Rattle.check_cmd.specs.Refusals.{Refused}
use Rattle.session_reading.proofs.Causes.{counts-passed, low-counts, low-status}
use Rattle.check_cmd.proofs.WholeCauses.{whole-log, whole-other}
use Rattle.check_cmd.proofs.evidence.gather.Goals as goal

pub returns-in_err-log-clause-refused : goal.returns-in_err-log-clause-refused
returns-in_err-log-clause-refused g c = λ told.
    let asked = check_asked c.args.request.now in
    let texts = g.S.Shelf.texts c.args.shelf.now in
    let why = c.in_err-log.field-0.0 in
    passed_on (HasCause (Refused g.F.FrontEnd.means g.F.FrontEnd.refuses _ _ asked texts)) c.from_residual-in_err-log.result why
    c.from_residual-in_err-log.ensures.1
    (whole-log g.F.FrontEnd.means g.F.FrontEnd.refuses _ _ asked texts (posed_of c.in_ok-posed.posed) why
    (c.in_ok-posed.ensures.poses told)
    (subst (λ (n : List ℕ). HasCause (LogRefused n (texts n)) why) c.as_str.ensures.value
    (subst (λ (ts : Texts). HasCause (LogRefused c.as_str.result.now (ts c.as_str.result.now)) why) c.in_ok-posed.ensures.texts
    (c.in_err-log.ensures.refused (c.in_ok-posed.ensures.tells ∙ told)))))

pub returns-in_err-log-clause-only : goal.returns-in_err-log-clause-only
returns-in_err-log-clause-only g c = λ told ready.
    passed_on IsSpared c.from_residual-in_err-log.result c.in_err-log.field-0.0 c.from_residual-in_err-log.ensures.1
    (c.in_err-log.ensures.only (c.in_ok-posed.ensures.tells ∙ told) ready.log
    (subst (λ (ts : Texts). IsLogIn (ts c.as_str.result.now) ready.log) (sym c.in_ok-posed.ensures.texts)
    (subst (λ (n : List ℕ). IsLogIn (g.S.Shelf.texts c.args.shelf.now n) ready.log) (sym c.as_str.ensures.value) ready.means_log)))

pub returns-in_err-same_inputs-clause-counts : goal.returns-in_err-same_inputs-clause-counts
returns-in_err-same_inputs-clause-counts g c =
    counts-passed _ _ c.from_residual-in_err-same_inputs.result c.in_err-same_inputs.field-0.0
    c.from_residual-in_err-same_inputs.ensures.1
    (low-counts (OtherRefused _) (other-low _) _ _ c.in_err-same_inputs.field-0.0 c.in_err-same_inputs.ensures.refused
    (c.in_ok-log.ensures.counts ∙ c.in_ok-posed.ensures.counts))

pub returns-in_err-same_inputs-clause-status : goal.returns-in_err-same_inputs-clause-status
returns-in_err-same_inputs-clause-status g c =
    passed_on HasStatus c.from_residual-in_err-same_inputs.result c.in_err-same_inputs.field-0.0
    c.from_residual-in_err-same_inputs.ensures.1
    (low-status (OtherRefused _) (other-low _) c.in_err-same_inputs.field-0.0 c.in_err-same_inputs.ensures.refused)

pub returns-in_err-same_inputs-clause-refused : goal.returns-in_err-same_inputs-clause-refused
returns-in_err-same_inputs-clause-refused g c = λ told.
    let asked = check_asked c.args.request.now in
    let texts = g.S.Shelf.texts c.args.shelf.now in
    let why = c.in_err-same_inputs.field-0.0 in
    let given : Given = record { posed = posed_of c.in_ok-posed.posed; log = c.in_ok-log.log } in
    passed_on (HasCause (Refused g.F.FrontEnd.means g.F.FrontEnd.refuses _ _ asked texts))
    c.from_residual-in_err-same_inputs.result why c.from_residual-in_err-same_inputs.ensures.1
    (whole-other g.F.FrontEnd.means g.F.FrontEnd.refuses _ _ asked texts given why
    (record {
      poses = c.in_ok-posed.ensures.poses told;
      log = subst (λ (n : List ℕ). IsLogIn (g.S.Shelf.texts c.args.shelf.now n) c.in_ok-log.log) c.as_str.ensures.value
          (subst (λ (ts : Texts). IsLogIn (ts c.as_str.result.now) c.in_ok-log.log) c.in_ok-posed.ensures.texts
          (c.in_ok-log.ensures.means (c.in_ok-posed.ensures.tells ∙ told)));
    })
    c.in_err-same_inputs.ensures.refused)

pub returns-in_err-same_inputs-clause-only : goal.returns-in_err-same_inputs-clause-only
returns-in_err-same_inputs-clause-only g c = λ told ready.
    let asked = check_asked c.args.request.now in
    let texts = g.S.Shelf.texts c.args.shelf.now in
    let poses = c.in_ok-posed.ensures.poses told in
    absurd
    (false≢true
    (c.in_err-same_inputs.ensures.only
    (ready.same (posed_of c.in_ok-posed.posed).report c.in_ok-log.log (posed_of c.in_ok-posed.posed).inputs poses.report.means
    (subst (λ (n : List ℕ). IsLogIn (texts n) c.in_ok-log.log) c.as_str.ensures.value
    (subst (λ (ts : Texts). IsLogIn (ts c.as_str.result.now) c.in_ok-log.log) c.in_ok-posed.ensures.texts
    (c.in_ok-log.ensures.means (c.in_ok-posed.ensures.tells ∙ told))))
    poses.inputs)))

pub returns-clause-can : goal.returns-clause-can
returns-clause-can g c = record { posed = c.in_ok-posed.ensures.can; few_steps = c.in_ok-log.ensures.few }

pub returns-clause-same : goal.returns-clause-same
returns-clause-same g c =
    record { report = c.in_ok-same_inputs.ensures.same.0; log = c.in_ok-same_inputs.ensures.same.1 }

pub returns-clause-means : goal.returns-clause-means
returns-clause-means g c = λ told.
    let asked = check_asked c.args.request.now in
    record {
      poses = c.in_ok-posed.ensures.poses told;
      log = subst (λ (n : List ℕ). IsLogIn (g.S.Shelf.texts c.args.shelf.now n) c.in_ok-log.log) c.as_str.ensures.value
          (subst (λ (ts : Texts). IsLogIn (ts c.as_str.result.now) c.in_ok-log.log) c.in_ok-posed.ensures.texts
          (c.in_ok-log.ensures.means (c.in_ok-posed.ensures.tells ∙ told)));
    }
