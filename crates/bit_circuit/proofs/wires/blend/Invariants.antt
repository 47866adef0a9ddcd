use Rattle.std.proofs.Common.{◌≡◌, ◌++◌, drop}
use Rattle.bit_circuit.specs.Wires.{blended_bits}
use Rattle.bit_circuit.proofs.wires.blend.Given as goal

abbrev pub invariant-loop-i : goal.invariant-loop-i
invariant-loop-i l = record {
  limit : l.words.maker.limit ≡ l.fn.words.maker.limit;
  nodes : l.words.maker.nodes ≡ l.fn.words.maker.nodes;
  rest : l.fn.words.bits ++ blended_bits l.mask l.one l.other ≡ l.words.bits ++ blended_bits l.rest (drop l.i l.one) (drop l.i l.other);
}
