use Rattle.load_texts.specs.Refusals.{load_line, load_status}
use Rattle.session_reading.specs.Parts.{LoadRefused, text_load}
use Rattle.session_reading.proofs.Causes.{said}
use Rattle.session_reading.proofs.LoadedTexts.{load-counts, load-spared}
use Rattle.session_reading.proofs.texts.load.Goals as goal

pub returns-in-Err-clause-counts : goal.returns-in-Err-clause-counts
returns-in-Err-clause-counts g c =
    load-counts _ _ c.args.name.now c.in-Err.fault c.last_line.result c.in-Err.ensures.counts
    c.last_line.ensures.status c.last_line.ensures.says

pub returns-in-Err-clause-refused : goal.returns-in-Err-clause-refused
returns-in-Err-clause-refused g c = λ told.
    let text = g.S.Shelf.texts c.args.shelf.now c.args.name.now in
    said (LoadRefused c.args.name.now text) c.last_line.result (load_status c.in-Err.fault) (load_line c.args.name.now c.in-Err.fault)
    (text_load c.in-Err.fault (c.in-Err.ensures.text told)) c.last_line.ensures.says

pub returns-in-Err-clause-only : goal.returns-in-Err-clause-only
returns-in-Err-clause-only g c = λ told short.
    let text = g.S.Shelf.texts c.args.shelf.now c.args.name.now in
    load-spared text c.in-Err.fault c.last_line.result (load_line c.args.name.now c.in-Err.fault)
    (c.in-Err.ensures.text told) c.last_line.ensures.status c.last_line.ensures.says short
