use Rattle.std.proofs.Common.{subst}
use Rattle.load_texts.specs.By.{by_of}
use Rattle.requests.specs.Views.{sources_asked}
use Rattle.load_texts.specs.Loading.{DesignSpared}
use Rattle.load_texts.specs.Causes.{DesignCause}
use Rattle.load_texts.proofs.Loaded.{in-text, of-text, passed_on, text-cause}
use Rattle.load_texts.proofs.loads.fetch_design.Goals as goal

pub returns-in_err-ordered-clause-refused : goal.returns-in_err-ordered-clause-refused
returns-in_err-ordered-clause-refused g c = λ told.
    let asked = sources_asked c.args.design.now.sources.now in
    let texts = g.S.Shelf.texts c.args.shelf.now in
    passed_on (DesignCause g.F.FrontEnd.refuses asked texts) c.from_residual-in_err-ordered.result c.in_err-ordered.field-0.0
    c.from_residual-in_err-ordered.ensures.1
    (text-cause g.F.FrontEnd.refuses asked texts c.in_ok-text.text (c.in_ok-text.ensures.text told)
    c.in_err-ordered.field-0.0 c.in_err-ordered.ensures.refused)

pub returns-in_err-ordered-clause-only : goal.returns-in_err-ordered-clause-only
returns-in_err-ordered-clause-only g c = λ told d means.
    let asked = sources_asked c.args.design.now.sources.now in
    passed_on DesignSpared c.from_residual-in_err-ordered.result c.in_err-ordered.field-0.0 c.from_residual-in_err-ordered.ensures.1
    (c.in_err-ordered.ensures.only d
    (in-text (g.S.Shelf.texts c.args.shelf.now asked.texts.design) c.in_ok-text.text
    (λ t. g.F.FrontEnd.means t (by_of asked) d)
    (c.in_ok-text.ensures.text told) means))

pub returns-clause-means : goal.returns-clause-means
returns-clause-means g c = λ told.
    let asked = sources_asked c.args.design.now.sources.now in
    of-text (g.S.Shelf.texts c.args.shelf.now asked.texts.design) c.in_ok-text.text
    (λ t. g.F.FrontEnd.means t (by_of asked) c.in_ok-ordered.ordered.design)
    (c.in_ok-text.ensures.text told) c.in_ok-ordered.ensures.means

pub returns-clause-kept : goal.returns-clause-kept
returns-clause-kept g c = λ told.
    of-text (g.S.Shelf.texts c.args.shelf.now (sources_asked c.args.design.now.sources.now).texts.design) c.in_ok-text.text
    (g.K.Imprint.is_of c.of.result) (c.in_ok-text.ensures.text told)
    (subst (g.K.Imprint.is_of c.of.result) c.as_slice.ensures c.of.ensures)
