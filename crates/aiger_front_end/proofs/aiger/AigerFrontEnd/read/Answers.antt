use Rattle.std.proofs.Common.{option_map, ◌∙◌}
use Rattle.aiger_front_end.proofs.Answers.{spared}
use Rattle.aiger_front_end.proofs.aiger.AigerFrontEnd.read.Goals as goal

pub returns-in-Err-clause-refused : goal.returns-in-Err-clause-refused
returns-in-Err-clause-refused c = λ other. record {
  fault = c.in-Err.fault;
  is_refusal = c.in-Err.ensures.refused (λ seven. other (c.refusal_of.ensures.status ∙ seven));
  is_code = c.refusal_of.ensures;
}

pub returns-in-Err-clause-only : goal.returns-in-Err-clause-only
returns-in-Err-clause-only c = λ d means.
    let clock = option_map (λ n. n.now) c.args.by.now.clock in
    c.refusal_of.ensures.status
    ∙ spared c.args.text.now c.args.by.now.top.now clock c.in-Err.fault c.in-Err.ensures.refused
    (c.no_refusal.ensures c.args.text.now c.args.by.now.top.now clock d c.in-Err.fault means)
