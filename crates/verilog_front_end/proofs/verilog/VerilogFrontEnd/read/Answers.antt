use Rattle.std.proofs.Common.{option_map, ◌∙◌}
use Rattle.verilog_front_end.proofs.Answers.{spared}
use Rattle.verilog_front_end.proofs.verilog.VerilogFrontEnd.read.Goals as goal

pub returns-in-Err-clause-refused : goal.returns-in-Err-clause-refused
returns-in-Err-clause-refused c = λ other. record {
  fault = c.in-Err.fault;
  is_refusal = c.in-Err.ensures.refused (λ seven. other (c.refusal_of.ensures.status ∙ seven));
  is_code = c.refusal_of.ensures;
}

pub returns-in-Err-clause-only : goal.returns-in-Err-clause-only
returns-in-Err-clause-only c = λ d means.
    c.refusal_of.ensures.status
    ∙ spared c.args.text.now c.args.by.now.top.now (option_map (λ n. n.now) c.args.by.now.clock) c.in-Err.fault
    c.in-Err.ensures.refused d means
