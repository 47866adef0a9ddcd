use Rattle.std.proofs.Common.{subst}
use Rattle.vcd_traces.specs.Manner.{manner_of}
use Rattle.vcd_traces.specs.Samples.{HasSamples}
use Rattle.load_texts.specs.Causes.{TraceCause}
use Rattle.load_texts.specs.Loading.{TraceSpared}
use Rattle.load_texts.proofs.Loaded.{dump-cause, in-text, of-text, passed_on}
use Rattle.load_texts.proofs.loads.load_trace.Goals as goal

pub returns-in_err-trace-clause-refused : goal.returns-in_err-trace-clause-refused
returns-in_err-trace-clause-refused g c = λ told.
    let texts = g.S.Shelf.texts c.args.shelf.now in
    let source = c.args.source.now in
    passed_on (TraceCause (texts source.name.now) source.by.design.now (manner_of source.by))
    c.from_residual-in_err-trace.result c.in_err-trace.field-0.0 c.from_residual-in_err-trace.ensures.1
    (dump-cause texts source.name.now source.by.design.now (manner_of source.by) c.in_ok-text.text
    (c.in_ok-text.ensures.text told) c.in_err-trace.field-0.0 c.in_err-trace.ensures.refused)

pub returns-in_err-trace-clause-only : goal.returns-in_err-trace-clause-only
returns-in_err-trace-clause-only g c = λ told t means.
    let source = c.args.source.now in
    passed_on TraceSpared c.from_residual-in_err-trace.result c.in_err-trace.field-0.0 c.from_residual-in_err-trace.ensures.1
    (c.in_err-trace.ensures.only t
    (in-text (g.S.Shelf.texts c.args.shelf.now source.name.now) c.in_ok-text.text
    (λ b. HasSamples b source.by.design.now (manner_of source.by) t)
    (c.in_ok-text.ensures.text told) means))

pub returns-clause-means : goal.returns-clause-means
returns-clause-means g c = λ told.
    let source = c.args.source.now in
    of-text (g.S.Shelf.texts c.args.shelf.now source.name.now) c.in_ok-text.text
    (λ b. HasSamples b source.by.design.now (manner_of source.by) c.in_ok-trace.trace)
    (c.in_ok-text.ensures.text told) c.in_ok-trace.ensures.means

pub returns-clause-kept : goal.returns-clause-kept
returns-clause-kept g c = λ told.
    of-text (g.S.Shelf.texts c.args.shelf.now c.args.source.now.name.now) c.in_ok-text.text
    (g.K.Imprint.is_of c.of.result) (c.in_ok-text.ensures.text told)
    (subst (g.K.Imprint.is_of c.of.result) c.as_slice.ensures c.of.ensures)
