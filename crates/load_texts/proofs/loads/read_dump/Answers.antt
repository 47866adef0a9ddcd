use Rattle.std.proofs.Common.{subst, sym}
use Rattle.vcd_traces.specs.Manner.{manner_of}
use Rattle.vcd_traces.specs.Samples.{HasSamples}
use Rattle.load_texts.proofs.Loaded.{dump-spared}
use Rattle.load_texts.proofs.loads.read_dump.Goals as goal

pub returns-in-Err-clause-only : goal.returns-in-Err-clause-only
returns-in-Err-clause-only g c = λ t has.
    let by = c.args.source.now.by in
    dump-spared c.in-Err.fault
    (c.in-Err.ensures.only t
    (subst (λ b. HasSamples b by.design.now (manner_of by) t) (sym c.as_slice-bytes.ensures) has))
