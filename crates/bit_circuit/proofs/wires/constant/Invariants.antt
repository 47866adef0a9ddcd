use Rattle.std.proofs.Common.{◌≡◌, ◌++◌, ◌-◌}
use Rattle.bit_circuit.specs.Wires.{constant_bits}
use Rattle.bit_circuit.proofs.wires.constant.Given as goal

abbrev pub invariant-loop-bit : goal.invariant-loop-bit
invariant-loop-bit l = record {
  limit : l.words.maker.limit ≡ l.fn.words.maker.limit;
  nodes : l.words.maker.nodes ≡ l.fn.words.maker.nodes;
  rest : l.fn.words.bits ++ constant_bits l.width l.value ≡ l.words.bits ++ constant_bits (l.width - l.bit) l.rest;
}
