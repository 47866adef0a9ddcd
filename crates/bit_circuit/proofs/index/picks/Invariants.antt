use Rattle.std.proofs.Common.{◌≡◌, drop}
use Rattle.bit_circuit.specs.Indexes.{picks_made}
use Rattle.bit_circuit.proofs.index.picks.Given as goal

abbrev pub invariant-loop-i : goal.invariant-loop-i
invariant-loop-i l = record {
  limit : l.words.maker.limit ≡ l.fn.words.maker.limit;
  rest : picks_made l.fn.words.maker.nodes l.fn.words.bits l.by.index.now l.from l.by.select.now l.offsets
      ≡ picks_made l.words.maker.nodes l.words.bits l.by.index.now l.from l.by.select.now (drop l.i l.offsets);
}
