use Rattle.std.proofs.Common.{◌≡◌, drop}
use Rattle.bit_circuit.specs.Indexes.{puts_made}
use Rattle.bit_circuit.proofs.index.puts.Given as goal

abbrev pub invariant-loop-i : goal.invariant-loop-i
invariant-loop-i l = record {
  limit : l.words.maker.limit ≡ l.fn.words.maker.limit;
  counts : l.position ≡ l.i;
  rest : puts_made l.fn.words.maker.nodes l.fn.words.bits l.by.index.now l.value l.by.select.now 0 l.old
      ≡ puts_made l.words.maker.nodes l.words.bits l.by.index.now l.value l.by.select.now l.position (drop l.i l.old);
}
