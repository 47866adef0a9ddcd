use Rattle.std.proofs.Common.{◌++◌, ◌∷◌, [], ℕ, ◌∙◌, ap, Vec, Global}
use Rattle.std.specs.Prelude.{string_bytes}
use Rattle.std.proofs.lemmas.Str.{IsUtf8-string_bytes}
use Rattle.report_doc.proofs.Plain.{only_text, whole_text}
use Rattle.report_doc.proofs.write.report_text.Goals as goal

pub returns : goal.returns
returns c =
    let json = c.in_ok-json_of.field-0 in
    let is = c.in_ok-json_of.ensures in
    let whole = whole_text c.args.r.now (string_bytes json) c.from_vec.result is.report is.json (IsUtf8-string_bytes json)
    (c.from_vec.ensures ∙ c.in_ok-push_bytes.ensures ∙ ap (λ (v : Vec ℕ Global). v.items ++ 10 ∷ []) c.into_bytes-text.ensures.value) in
    record {
      text = whole.0;
      report = is.report;
      json = whole.1;
      reads_back = λ other report one. only_text c.args.r.now other c.from_vec.result is.report report whole.1 one;
    }
