use Rattle.vcd_reading.specs.Outcomes.{begun}
use Rattle.vcd_traces.specs.Table.{cell_codes}
use Rattle.vcd_traces.specs.Dump.{dump_header}
use Rattle.vcd_traces.proofs.DumpLaws.{front_going, gone_ends, comes_err, counted}
use Rattle.vcd_traces.proofs.dump.Dump.read.Goals as goal

pub returns-in_err-read : goal.returns-in_err-read
returns-in_err-read c ports w planned front =
    let h = dump_header c.args.self.now in
    comes_err ports w c.args.self.now.text.now h (begun h) c.read.new.self c.in_err-read.field-0.0 _
    (c.in_err-read.ensures ports w (begun h) planned
    (front_going ports w c.args.plan.now c.args.self.now c.in_ok-reading.reading front
    (c.in_ok-reading.ensures w (cell_codes c.args.plan.now.table) h (counted c.args.plan.now.table _ c.as_slice.ensures.value))))
    c.from_residual-in_err-read.ensures.1

pub returns : goal.returns
returns c ports w planned front =
    let h = dump_header c.args.self.now in
    gone_ends ports w c.args.self.now.text.now h c.read.new.self
    (c.in_ok-read.ensures ports w (begun h) planned
    (front_going ports w c.args.plan.now c.args.self.now c.in_ok-reading.reading front
    (c.in_ok-reading.ensures w (cell_codes c.args.plan.now.table) h (counted c.args.plan.now.table _ c.as_slice.ensures.value))))
