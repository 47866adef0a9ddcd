use Rattle.std.proofs.Common.{◌≡◌, ◌++◌, drop, map}
use Rattle.gate_base.specs.Literals.{opposite}
use Rattle.bit_circuit.proofs.operators.opposites.Given as goal

abbrev pub invariant-loop-i : goal.invariant-loop-i
invariant-loop-i l = record {
  limit : l.words.maker.limit ≡ l.fn.words.maker.limit;
  nodes : l.words.maker.nodes ≡ l.fn.words.maker.nodes;
  rest : l.fn.words.bits ++ map opposite l.arg ≡ l.words.bits ++ map opposite (drop l.i l.arg);
}
