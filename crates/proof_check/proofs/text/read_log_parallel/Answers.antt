use Rattle.std.proofs.Common.{◌≢◌, ◌-◌, ◌≤◌, ℕ}
use Rattle.proof_check.specs.declared.types.LogText.{LogText}
use Rattle.proof_check.specs.Text.{IsLogText, IsFirstBadLine, pieces, text_of}
use Rattle.proof_check.specs.Lines.{IsFirstBadStep}
use Rattle.proof_check.proofs.Texts.{bad_is_no_text, bad_inputs, bad_step, err_same, at_each_line, on_err, inputs_split, read_whole}
use Rattle.proof_check.proofs.text.read_log_parallel.Goals as goal

pub returns-in_default-after_inputs-clause-refused : goal.returns-in_default-after_inputs-clause-refused
returns-in_default-after_inputs-clause-refused g c = bad_is_no_text c.args.text.now 2 (bad_inputs c.args.text.now c.in-Some.rest.now c.in-Some.ensures c.in_default-after_inputs.ensures)

pub returns-in_err-log-clause-syntax : goal.returns-in_err-log-clause-syntax
returns-in_err-log-clause-syntax g c =
    let text = c.args.text.now in
    let rest = c.in-Some-after_inputs.rest.now in
    let split = inputs_split text c.in-Some.rest.now rest c.in-Some-after_inputs.inputs c.in-Some.ensures c.in-Some-after_inputs.ensures.1 in
    let P : ℕ → Type 0 = λ line. (3 ≤ line) × IsFirstBadStep (pieces rest) (line - 3) in
    on_err (IsFirstBadLine text) c.from_residual.result c.in_err-log.field-0.0 (err_same c.from_residual.result c.in_err-log.field-0.0 c.from_residual.ensures.1)
    (at_each_line P (IsFirstBadLine text) c.in_err-log.field-0.0 (λ line bad. bad_step text rest c.in-Some-after_inputs.inputs line split c.in-Some-after_inputs.ensures.0 bad) c.in_err-log.ensures.bad)

pub returns-in_err-log-clause-refused : goal.returns-in_err-log-clause-refused
returns-in_err-log-clause-refused g c =
    let text = c.args.text.now in
    let rest = c.in-Some-after_inputs.rest.now in
    let split = inputs_split text c.in-Some.rest.now rest c.in-Some-after_inputs.inputs c.in-Some.ensures c.in-Some-after_inputs.ensures.1 in
    let P : ℕ → Type 0 = λ line. (3 ≤ line) × IsFirstBadStep (pieces rest) (line - 3) in
    let Q : ℕ → Type 0 = λ line. (value : LogText) → IsLogText value → text ≢ text_of value in
    on_err Q c.from_residual.result c.in_err-log.field-0.0 (err_same c.from_residual.result c.in_err-log.field-0.0 c.from_residual.ensures.1)
    (at_each_line P Q c.in_err-log.field-0.0 (λ line bad. bad_is_no_text text line (bad_step text rest c.in-Some-after_inputs.inputs line split c.in-Some-after_inputs.ensures.0 bad)) c.in_err-log.ensures.bad)

pub returns-clause-ok : goal.returns-clause-ok
returns-clause-ok g c =
    let text = c.args.text.now in
    let rest = c.in-Some-after_inputs.rest.now in
    let split = inputs_split text c.in-Some.rest.now rest c.in-Some-after_inputs.inputs c.in-Some.ensures c.in-Some-after_inputs.ensures.1 in
    read_whole text rest c.in-Some-after_inputs.inputs c.in_ok-log.log split c.in-Some-after_inputs.ensures.0 c.in_ok-log.ensures.ok
