use Rattle.std.proofs.Common.{option_map}
use Rattle.verilog_front_end.proofs.Answers.{ready}
use Rattle.verilog_front_end.proofs.verilog.read_text.Goals as goal

pub returns-clause-ready : goal.returns-clause-ready
returns-clause-ready c =
    let known = c.in_ok-design.ensures in
    ready c.args.text.now c.args.top.now (option_map (λ n. n.now) c.args.clock) c.in_ok-design.design
    c.ordered.result known.ok known.well_formed known.once
    c.ordered.ensures.same c.ordered.ensures.ok
