use Rattle.std.specs.Option.{option_copied}
use Rattle.vcd_traces.specs.Manner.{manner_of}
use Rattle.vcd_traces.specs.Samples.{sought_of}
use Rattle.vcd_traces.proofs.DumpLaws.{answers_header, top_same, top_count, top_fit}
use Rattle.vcd_traces.proofs.sampling.answer.Goals as goal

pub returns-in_err-read_header : goal.returns-in_err-read_header
returns-in_err-read_header c =
    answers_header c.args.text.now c.args.by.now.design.now (manner_of c.args.by.now) c.in_err-read_header.field-0.0 _ c.in_err-read_header.ensures.fault
    c.from_residual.ensures.1

pub trace-requires-clause-count : goal.trace-requires-clause-count
trace-requires-clause-count c =
    top_count c.args.by.now.design.now (option_copied c.args.by.now.clock) c.in_ok-ports.ports.items c.as_slice.result.now c.in_ok-ports.ensures c.as_slice.ensures.value

pub trace-requires-clause-widths : goal.trace-requires-clause-widths
trace-requires-clause-widths c =
    top_fit c.args.by.now.design.now (option_copied c.args.by.now.clock) c.in_ok-ports.ports.items c.as_slice.result.now c.in_ok-ports.ensures c.as_slice.ensures.value
    c.requires

pub returns : goal.returns
returns c =
    c.trace.ensures
    (top_same c.args.by.now.design.now (option_copied c.args.by.now.clock) c.in_ok-ports.ports.items c.as_slice.result.now c.in_ok-ports.ensures c.as_slice.ensures.value)
    (record {
      reads = c.in_ok-read_header.ensures.reads (sought_of c.args.by.now.design.now (manner_of c.args.by.now));
      unended = c.in_ok-read_header.ensures.open;
    })
