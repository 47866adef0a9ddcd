use Rattle.requests.specs.Views.{sources_asked}
use Rattle.load_texts.proofs.Endings.{design-cause, design-counts, design-says, design-spared}
use Rattle.load_texts.proofs.lines.load_design.Goals as goal

pub returns-in-Err-clause-counts : goal.returns-in-Err-clause-counts
returns-in-Err-clause-counts g c =
    let name = (sources_asked c.args.sources.now).texts.design in
    design-counts (g.S.Shelf.faults c.args.shelf.now) (g.S.Shelf.faults c.fetch_design.new.shelf) name c.in-Err.fault
    c.last_line.result
    (design-says c.last_line.result c.in-Err.fault c.as_str.result.now name c.as_str.ensures.value c.last_line.ensures.says)
    c.in-Err.ensures.counts

pub returns-in-Err-clause-refused : goal.returns-in-Err-clause-refused
returns-in-Err-clause-refused g c = λ told.
    let asked = sources_asked c.args.sources.now in
    design-cause g.F.FrontEnd.refuses asked (g.S.Shelf.texts c.args.shelf.now) c.in-Err.fault c.last_line.result
    (c.in-Err.ensures.refused told)
    (design-says c.last_line.result c.in-Err.fault c.as_str.result.now asked.texts.design c.as_str.ensures.value
    c.last_line.ensures.says)

pub returns-in-Err-clause-only : goal.returns-in-Err-clause-only
returns-in-Err-clause-only g c = λ told d means.
    design-spared c.in-Err.fault c.last_line.result _ c.last_line.ensures.status c.last_line.ensures.says
    (c.in-Err.ensures.only told d means)
