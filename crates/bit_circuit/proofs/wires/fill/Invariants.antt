use Rattle.std.proofs.Common.{◌≡◌, ◌++◌, ◌-◌, replicate}
use Rattle.bit_circuit.proofs.wires.fill.Given as goal

abbrev pub invariant-loop-time : goal.invariant-loop-time
invariant-loop-time l = record {
  limit : l.words.maker.limit ≡ l.fn.words.maker.limit;
  nodes : l.words.maker.nodes ≡ l.fn.words.maker.nodes;
  rest : l.fn.words.bits ++ replicate l.count l.literal ≡ l.words.bits ++ replicate (l.count - l.time) l.literal;
}
