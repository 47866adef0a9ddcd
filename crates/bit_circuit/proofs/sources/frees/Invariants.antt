use Rattle.std.proofs.Common.{◌≡◌, drop}
use Rattle.bit_circuit.specs.Sources.{frees_made}
use Rattle.bit_circuit.proofs.sources.frees.Given as goal

abbrev pub invariant-loop-i : goal.invariant-loop-i
invariant-loop-i l = record {
  limit : l.words.maker.limit ≡ l.fn.words.maker.limit;
  counts : l.bit ≡ l.i;
  rest : frees_made l.fn.words.maker.nodes l.fn.words.bits l.place 0 l.computed ≡ frees_made l.words.maker.nodes l.words.bits l.place l.bit (drop l.i l.computed);
}
