use Rattle.std.proofs.Common.{◌≡◌, ◌-◌}
use Rattle.synth_parts.specs.Expression.{array_made, words_made}
use Rattle.synth_parts.proofs.array_parts.array.Given as goal

abbrev pub invariant-loop-place : goal.invariant-loop-place
invariant-loop-place l = record {
  rest : array_made l.at.signals.now l.at.nodes_of.now l.array l.fn.nodes l.count ≡ words_made l.at.signals.now l.at.nodes_of.now l.array l.nodes l.so_far l.place (l.count - l.place);
}
