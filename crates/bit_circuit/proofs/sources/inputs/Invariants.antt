use Rattle.std.proofs.Common.{◌≡◌, ◌+◌, ◌-◌}
use Rattle.gate_base.specs.Nodes.{sources_in}
use Rattle.bit_circuit.specs.Sources.{inputs_made}
use Rattle.bit_circuit.proofs.sources.inputs.Given as goal

abbrev pub invariant-loop-bit : goal.invariant-loop-bit
invariant-loop-bit l = record {
  limit : l.words.maker.limit ≡ l.fn.words.maker.limit;
  sources : sources_in l.words.maker.nodes ≡ sources_in l.fn.words.maker.nodes + l.bit;
  rest : inputs_made l.fn.words.maker.nodes l.fn.words.bits l.input 0 l.width ≡ inputs_made l.words.maker.nodes l.words.bits l.input l.bit (l.width - l.bit);
}
