use Rattle.std.proofs.Common.{◌≡◌, ◌+◌, ◌-◌}
use Rattle.gate_base.specs.Nodes.{sources_in}
use Rattle.bit_circuit.specs.Sources.{states_made}
use Rattle.bit_circuit.proofs.sources.states.Given as goal

abbrev pub invariant-loop-bit : goal.invariant-loop-bit
invariant-loop-bit l = record {
  limit : l.words.maker.limit ≡ l.fn.words.maker.limit;
  sources : sources_in l.words.maker.nodes ≡ sources_in l.fn.words.maker.nodes + l.bit;
  rest : states_made l.fn.words.maker.nodes l.fn.words.bits l.state 0 l.width ≡ states_made l.words.maker.nodes l.words.bits l.state l.bit (l.width - l.bit);
}
