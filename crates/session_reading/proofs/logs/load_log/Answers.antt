use Rattle.proof_check.specs.Text.{IsLogText}
use Rattle.session_reading.specs.Texts.{IsLogIn, IsLogOf}
use Rattle.session_reading.specs.Parts.{LogTextRefused}
use Rattle.session_reading.specs.Refusals.{LogRefused}
use Rattle.refusal.specs.Ends.{HasCause, HasStatus, IsMemory, IsSpared}
use Rattle.load_texts.proofs.Loaded.{passed_on}
use Rattle.session_reading.proofs.Causes.{err-of, low-counts_of, low-status, memory-spared, ok-of}
use Rattle.session_reading.proofs.LoadedTexts.{at-text, is-short, of-text, log-cause_load, log-cause_text, log-low}
use Rattle.session_reading.proofs.logs.load_log.Goals as goal

pub returns-in_err-text-clause-refused : goal.returns-in_err-text-clause-refused
returns-in_err-text-clause-refused g c = λ told.
    let name = c.args.name.now in
    let there = g.S.Shelf.texts c.args.shelf.now name in
    passed_on (HasCause (LogRefused name there)) c.from_residual.result c.in_err-text.field-0.0 c.from_residual.ensures.1
    (log-cause_load name there c.in_err-text.field-0.0 (c.in_err-text.ensures.refused told))

pub returns-in_err-text-clause-only : goal.returns-in_err-text-clause-only
returns-in_err-text-clause-only g c = λ told log means.
    let name = c.args.name.now in
    let there = g.S.Shelf.texts c.args.shelf.now name in
    passed_on IsSpared c.from_residual.result c.in_err-text.field-0.0 c.from_residual.ensures.1
    (c.in_err-text.ensures.only told (is-short there _ means))

pub returns-clause-counts : goal.returns-clause-counts
returns-clause-counts g c =
    low-counts_of (LogTextRefused c.in_ok-text.text) (log-low c.in_ok-text.text) _ _ c.log_in.result
    c.log_in.ensures.refused c.in_ok-text.ensures.counts

pub returns-clause-status : goal.returns-clause-status
returns-clause-status g c =
    err-of (HasCause (LogTextRefused c.in_ok-text.text)) HasStatus c.log_in.result
    (low-status (LogTextRefused c.in_ok-text.text) (log-low c.in_ok-text.text)) c.log_in.ensures.refused

pub returns-clause-log : goal.returns-clause-log
returns-clause-log g c =
    ok-of (IsLogOf c.in_ok-text.text) IsLogText c.log_in.result (λ log is. is.0) c.log_in.ensures.means

pub returns-clause-means : goal.returns-clause-means
returns-clause-means g c = λ told.
    let name = c.args.name.now in
    let there = g.S.Shelf.texts c.args.shelf.now name in
    ok-of (IsLogOf c.in_ok-text.text) (IsLogIn there) c.log_in.result
    (λ log is. at-text there c.in_ok-text.text (λ text. IsLogOf text log) (c.in_ok-text.ensures.text told)
    c.in_ok-text.ensures.short is)
    c.log_in.ensures.means

pub returns-clause-refused : goal.returns-clause-refused
returns-clause-refused g c = λ told.
    let name = c.args.name.now in
    let there = g.S.Shelf.texts c.args.shelf.now name in
    err-of (HasCause (LogTextRefused c.in_ok-text.text)) (HasCause (LogRefused name there)) c.log_in.result
    (λ refusal. log-cause_text name there c.in_ok-text.text refusal (c.in_ok-text.ensures.text told) c.in_ok-text.ensures.short)
    c.log_in.ensures.refused

pub returns-clause-only : goal.returns-clause-only
returns-clause-only g c = λ told log means.
    let name = c.args.name.now in
    let there = g.S.Shelf.texts c.args.shelf.now name in
    err-of IsMemory IsSpared c.log_in.result memory-spared
    (c.log_in.ensures.only log
    (of-text there c.in_ok-text.text (λ text. IsLogOf text log) (c.in_ok-text.ensures.text told) means))
