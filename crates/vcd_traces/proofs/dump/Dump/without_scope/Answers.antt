use Rattle.std.proofs.Common.{ap, sym, map, refl, rules}
use Rattle.vcd_reading.specs.HeaderView.{variable_of}
use Rattle.vcd_traces.specs.Samples.{sought_of}
use Rattle.vcd_traces.specs.Dump.{dump_header}
use Rattle.vcd_traces.proofs.AnswerLaws.{no_watches, refused_scope}
use Rattle.vcd_traces.proofs.DumpLaws.{plan_none, answers_err}
use Rattle.vcd_traces.proofs.dump.Dump.without_scope.Goals as goal

pub returns-in_err-read : goal.returns-in_err-read
returns-in_err-read c d by front none =
    answers_err c.args.self.now.text.now d by c.in_err-read.field-0.0 _
    (c.in_err-read.ensures (sought_of d by) no_watches
    (plan_none (dump_header c.args.self.now) (sought_of d by) _ _ none
    (c.in_ok-port_table.ensures (dump_header c.args.self.now) (sought_of d by) (ap (map variable_of) (sym c.as_slice.ensures.value)) (search rules)) refl
    c.new.ensures.items c.new-2.ensures.items refl)
    front)
    c.from_residual-in_err-read.ensures.1

pub returns : goal.returns
returns c d by front none =
    λ other.
    refused_scope c.args.self.now.text.now d by no_watches (dump_header c.args.self.now) c.in_ok-read.field-0
    (c.in_ok-read.ensures (sought_of d by) no_watches
    (plan_none (dump_header c.args.self.now) (sought_of d by) _ _ none
    (c.in_ok-port_table.ensures (dump_header c.args.self.now) (sought_of d by) (ap (map variable_of) (sym c.as_slice.ensures.value)) (search rules)) refl
    c.new.ensures.items c.new-2.ensures.items refl)
    front)
    none
