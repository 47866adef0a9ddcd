use Rattle.std.proofs.Common.{List, ℕ, subst}
use Rattle.proof_check.specs.declared.types.LogText.{LogText}
use Rattle.session_reading.specs.Texts.{IsLogOf}
use Rattle.session_reading.specs.Parts.{LogTextRefused}
use Rattle.refusal.specs.Ends.{HasCause, IsMemory}
use Rattle.session_reading.proofs.LoadedTexts.{few-steps, log-cause, log-memory}
use Rattle.session_reading.proofs.logs.log_in.Goals as goal

pub returns-in-Ok-clause-few : goal.returns-in-Ok-clause-few
returns-in-Ok-clause-few g c =
    few-steps c.args.text.now.bytes.now c.in-Ok.log
    (subst (λ (t : List ℕ). IsLogOf t c.in-Ok.log) c.as_slice.ensures c.in-Ok.ensures.ok) c.requires.short

pub returns-in-Err-clause-refused : goal.returns-in-Err-clause-refused
returns-in-Err-clause-refused g c =
    subst (λ (t : List ℕ). HasCause (LogTextRefused t) c.refused.result) c.as_slice.ensures
    (log-cause c.as_slice.result.now c.in-Err.fault c.refused.result c.in-Err.ensures.syntax c.refused.ensures.status
    c.refused.ensures.says)

pub returns-in-Err-clause-only : goal.returns-in-Err-clause-only
returns-in-Err-clause-only g c =
    subst (λ (t : List ℕ). (value : LogText) → IsLogOf t value → IsMemory c.refused.result) c.as_slice.ensures
    (λ value is. log-memory c.as_slice.result.now c.in-Err.fault c.refused.result value c.in-Err.ensures.refused
    c.refused.ensures.status c.refused.ensures.says is)
