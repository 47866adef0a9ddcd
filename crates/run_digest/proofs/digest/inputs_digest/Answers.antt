use Rattle.std.proofs.Common.{[], codes}
use Rattle.run_digest.specs.Feeding.{Took}
use Rattle.run_digest.specs.Inputs.{line, inputs_text}
use Rattle.run_digest.proofs.Taking.{Took-append}
use Rattle.run_digest.proofs.digest.inputs_digest.Goals as goal

pub returns : goal.returns
returns c =
    let top : Took c.update.new.self c.feed_line.new.hasher (line (codes "top") c.args.of.now.top.now) = rw c.as_bytes.ensures.same at c.feed_line.ensures in
    let after_traces = Took-append _ _ _ _ _ c.feed_scope.ensures c.feed_zero.ensures in
    let after_hash = Took-append _ _ _ _ _ c.feed_traces.ensures after_traces in
    let after_design = Took-append _ _ _ _ _ c.feed_hash.ensures after_hash in
    let after_kinds = Took-append _ _ _ _ _ c.feed_size.ensures after_design in
    let after_clock = Took-append _ _ _ _ _ c.feed_kinds.ensures after_kinds in
    let after_top = Took-append _ _ _ _ _ c.feed_clock.ensures after_clock in
    let after_head = Took-append c.update.new.self _ _ _ _ top after_top in
    let whole : Took c.new-hasher.result c.feed_zero.new.hasher (inputs_text c.args.of.now) = Took-append _ _ _ (codes "localise 1\n") _ c.update.ensures after_head in
    c.finalize.ensures (inputs_text c.args.of.now) (whole [] c.new-hasher.ensures)
