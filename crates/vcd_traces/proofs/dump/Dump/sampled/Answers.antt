use Rattle.std.proofs.Common.{◌∙◌, ap, sym}
use Rattle.vcd_reading.specs.Scopes.{is_unfit}
use Rattle.vcd_traces.specs.Samples.{sought_of, watches_of, least_port}
use Rattle.vcd_traces.specs.Manner.{manner_of}
use Rattle.vcd_traces.specs.Dump.{dump_header}
use Rattle.vcd_traces.proofs.AnswerLaws.{refused_width, answers_rows}
use Rattle.vcd_traces.proofs.DumpLaws.{plan_found, answers_err}
use Rattle.vcd_traces.proofs.dump.Dump.sampled.Goals as goal

pub returns-in_err-rows : goal.returns-in_err-rows
returns-in_err-rows c found =
    let dump = c.args.self.now in
    let by = manner_of c.args.by.now in
    answers_err dump.text.now c.args.by.now.design.now by c.in_err-rows.field-0.0 _
    (c.in_err-rows.ensures (sought_of c.args.by.now.design.now by) (watches_of c.args.by.now.design.now by (dump_header dump))
    (plan_found c.args.by.now.design.now by dump c.args.sites.now c.as_slice.result.now c.in_ok-table.table c.in_ok-watched.watched found c.as_slice.ensures.value
    c.in_ok-table.ensures c.in_ok-watched.ensures.watched)
    found.front)
    c.from_residual-in_err-rows.ensures.1

pub returns-in-Some : goal.returns-in-Some
returns-in-Some c found =
    let dump = c.args.self.now in
    let by = manner_of c.args.by.now in
    let d = c.args.by.now.design.now in
    λ other.
    refused_width dump.text.now d by (watches_of d by (dump_header dump)) (dump_header dump) c.in_ok-rows.rows found.scope c.in-Some.port
    (c.in_ok-rows.ensures (sought_of d by) (watches_of d by (dump_header dump))
    (plan_found d by dump c.args.sites.now c.as_slice.result.now c.in_ok-table.table c.in_ok-watched.watched found c.as_slice.ensures.value
    c.in_ok-table.ensures c.in_ok-watched.ensures.watched)
    found.front)
    found.first
    (ap (least_port (is_unfit (dump_header dump) (sought_of d by))) (sym found.same) ∙ sym (c.least_unfit.ensures (dump_header dump) (sought_of d by) found.each)
    ∙ c.in-Some.is)

pub returns-in-None : goal.returns-in-None
returns-in-None c found =
    let dump = c.args.self.now in
    let by = manner_of c.args.by.now in
    let d = c.args.by.now.design.now in
    answers_rows dump.text.now d by (dump_header dump) c.in_ok-rows.rows found.scope c.finish.result
    (c.in_ok-rows.ensures (sought_of d by) (watches_of d by (dump_header dump))
    (plan_found d by dump c.args.sites.now c.as_slice.result.now c.in_ok-table.table c.in_ok-watched.watched found c.as_slice.ensures.value
    c.in_ok-table.ensures c.in_ok-watched.ensures.watched)
    found.front)
    found.first
    (ap (least_port (is_unfit (dump_header dump) (sought_of d by))) (sym found.same) ∙ sym (c.least_unfit.ensures (dump_header dump) (sought_of d by) found.each)
    ∙ c.in-None.is)
    c.finish.ensures
