use Rattle.std.proofs.Common.{refl}
use Rattle.run_digest.specs.Inputs.{trace_line}
use Rattle.run_digest.proofs.Taking.{Took-next}
use Rattle.run_digest.proofs.digest.feed_traces.Goals as goal

pub loop-digest-preserved : goal.loop-digest-preserved
loop-digest-preserved c =
    Took-next c.args.hasher.now c.loop-digest.hasher c.feed_hash.new.hasher trace_line c.args.traces.now c.loop-digest.digest-index _ _ c.loop-digest-test.true refl c.loop-digest.invariant c.feed_hash.ensures
