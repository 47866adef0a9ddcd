use Rattle.std.proofs.Common.{◌≡◌, List, take, ap, sym, ◌∙◌, IsTrue, arith}
use Rattle.std.proofs.lemmas.List.{take_all}
use Rattle.clause_base.specs.declared.literal.Lit.{Lit}
use Rattle.clause_base.specs.declared.log.Step.{Step}
use Rattle.clause_base.specs.Literal.{has_distinct_variables}
use Rattle.clause_base.specs.Steps.{no_step}
use Rattle.proof_check.specs.Text.{IsLogText, text_of}
use Rattle.proof_check.proofs.Texts.{text_of-injective, unmapped}
use Rattle.proof_check.proofs.text.log_text.Goals as goal

pub returns-clause-reads_back : goal.returns-clause-reads_back
returns-clause-reads_back c = λ other is e.
    let all : take c.loop-place.place c.args.value.now.log ≡ c.args.value.now.log = take_all c.loop-place.place c.args.value.now.log (omega arith) in
    let text : c.loop-place.text ≡ text_of c.args.value.now = c.loop-place.invariant ∙ ap (λ (steps : List Step). text_of (record c.args.value.now { log = steps })) all in
    let value : IsLogText c.args.value.now = record {
      digest = c.write_inputs.ensures.digest;
      steps = c.requires;
      distinct = unmapped (λ (clause : List Lit). IsTrue (has_distinct_variables clause)) (λ (step : Step). step.clause) c.args.value.now.log no_step c.len-place-end.ensures.distinct;
    } in
    text_of-injective other c.args.value.now is value (sym e ∙ text)
