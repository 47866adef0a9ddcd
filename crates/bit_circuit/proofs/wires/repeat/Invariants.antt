use Rattle.std.proofs.Common.{◌≡◌, ◌++◌, ◌-◌}
use Rattle.bit_circuit.specs.Wires.{repeated_bits}
use Rattle.bit_circuit.proofs.wires.repeat.Given as goal

abbrev pub invariant-loop-time : goal.invariant-loop-time
invariant-loop-time l = record {
  limit : l.words.maker.limit ≡ l.fn.words.maker.limit;
  nodes : l.words.maker.nodes ≡ l.fn.words.maker.nodes;
  rest : l.fn.words.bits ++ repeated_bits l.times l.part ≡ l.words.bits ++ repeated_bits (l.times - l.time) l.part;
}
