use Rattle.std.proofs.Common.{subst}
use Rattle.std.specs.Option.{option_copied}
use Rattle.requests.specs.Views.{sources_asked}
use Rattle.vcd_traces.specs.Samples.{Manner}
use Rattle.load_texts.specs.Loading.{TraceSpared}
use Rattle.load_texts.specs.Means.{MeansTrace}
use Rattle.load_texts.proofs.Loaded.{fits-next, keeps-next, manner-is, next-spared, not-next, passed_on, reads-next}
use Rattle.load_texts.proofs.loads.TracesRead.load_next.Goals as goal

pub returns-in_err-next-clause-read : goal.returns-in_err-next-clause-read
returns-in_err-next-clause-read g c = λ told.
    let dumps = c.args.reading.now.dumps.now in
    let asked = sources_asked dumps.sources.now in
    let texts = g.S.Shelf.texts c.args.shelf.now in
    let place = c.args.reading.now.place in
    let name = c.name_at.result.now in
    not-next texts asked dumps.design.now place name (option_copied c.scope_in.result) c.args.self.now.traces.items
    c.args.self.now.traces.items c.from_residual.result c.in_err-next.field-0.0 c.name_at.ensures c.scope_in.ensures c.from_residual.ensures.1
    (c.in_err-next.ensures.refused told)

pub returns-in_err-next-clause-only : goal.returns-in_err-next-clause-only
returns-in_err-next-clause-only g c = λ told all.
    let dumps = c.args.reading.now.dumps.now in
    let asked = sources_asked dumps.sources.now in
    passed_on TraceSpared c.from_residual.result c.in_err-next.field-0.0 c.from_residual.ensures.1
    (next-spared (g.S.Shelf.texts c.args.shelf.now) asked dumps.design.now c.args.reading.now.place
    c.name_at.result.now _ c.in_err-next.field-0.0 c.name_at.ensures
    (manner-is asked (option_copied c.scope_in.result) c.scope_in.ensures)
    (c.in_err-next.ensures.only told) all)

pub returns-clause-read : goal.returns-clause-read
returns-clause-read g c = λ told.
    let dumps = c.args.reading.now.dumps.now in
    let asked = sources_asked dumps.sources.now in
    let texts = g.S.Shelf.texts c.args.shelf.now in
    let name = c.name_at.result.now in
    let means = subst (λ (m : Manner). MeansTrace texts m dumps.design.now name c.in_ok-next.next.trace)
    (manner-is asked (option_copied c.scope_in.result) c.scope_in.ensures) (c.in_ok-next.ensures.means told) in
    reads-next texts asked dumps.design.now c.args.reading.now.place
    name c.args.self.now.traces.items c.keep.new.self.traces.items c.in_ok-next.next.trace c.keep.result
    c.name_at.ensures means c.keep.ensures.traces c.keep.ensures.fault

pub returns-clause-kept : goal.returns-clause-kept
returns-clause-kept g c = λ told.
    let reading = c.args.reading.now in
    keeps-next g.K.Imprint.is_of (g.S.Shelf.texts c.args.shelf.now) (sources_asked reading.dumps.now.sources.now) reading.place
    c.name_at.result.now c.args.self.now.imprints.items c.keep.new.self.imprints.items c.in_ok-next.next.imprint
    c.keep.result c.name_at.ensures (c.in_ok-next.ensures.kept told) c.keep.ensures.imprints

pub returns-clause-fits : goal.returns-clause-fits
returns-clause-fits g c =
    fits-next c.args.reading.now.dumps.now.design.now c.args.self.now.traces.items c.keep.new.self.traces.items c.in_ok-next.next.trace
    c.keep.result c.in_ok-next.ensures.fits c.keep.ensures.traces
