use Rattle.std.proofs.Common.{take}
use Rattle.std.specs.List.{flat_map}
use Rattle.run_digest.specs.Feeding.{Took}
use Rattle.run_digest.specs.Inputs.{trace_line}
use Rattle.run_digest.proofs.digest.feed_traces.Given as goal

abbrev pub invariant-loop-digest : goal.invariant-loop-digest
invariant-loop-digest l = Took l.initial.hasher l.hasher (flat_map trace_line (take l.digest-index l.traces))
