use Rattle.requests.specs.Views.{sources_asked}
use Rattle.load_texts.proofs.Endings.{trace-cause, trace-counts, trace-spared}
use Rattle.load_texts.proofs.lines.load_traces.Goals as goal

pub returns-in-Err-clause-counts : goal.returns-in-Err-clause-counts
returns-in-Err-clause-counts g c =
    let name = c.trace_name-name.result in
    trace-counts (g.S.Shelf.faults c.args.shelf.now) (g.S.Shelf.faults c.fetch_traces.new.shelf)
    (sources_asked c.args.sources.now) c.in-Err.refused.place name.signals.now name.name.now name.number c.in-Err.refused.fault
    c.last_line.result c.trace_name-name.ensures.name c.last_line.ensures.says c.in-Err.ensures.counts

pub returns-in-Err-clause-refused : goal.returns-in-Err-clause-refused
returns-in-Err-clause-refused g c = λ told.
    let name = c.trace_name-name.result in
    trace-cause (sources_asked c.args.sources.now) (g.S.Shelf.texts c.args.shelf.now) c.args.design.now c.in-Err.refused.place
    c.in-Err.refused.fault c.last_line.result name.signals.now name.name.now name.number c.trace_name-name.ensures.signals
    c.trace_name-name.ensures.number c.trace_name-name.ensures.name (c.in-Err.ensures.refused told) c.last_line.ensures.says

pub returns-in-Err-clause-only : goal.returns-in-Err-clause-only
returns-in-Err-clause-only g c = λ told have.
    trace-spared c.in-Err.refused.fault c.last_line.result _ c.last_line.ensures.status c.last_line.ensures.says
    (c.in-Err.ensures.only told have)
