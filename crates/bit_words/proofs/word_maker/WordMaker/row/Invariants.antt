use Rattle.std.proofs.Common.{◌≡◌, drop}
use Rattle.bit_words.specs.Multiply.{row_made}
use Rattle.bit_words.proofs.word_maker.WordMaker.row.Given as goal

abbrev pub invariant-loop-i : goal.invariant-loop-i
invariant-loop-i l = record {
  limit : l.self.maker.limit ≡ l.fn.self.maker.limit;
  rest : row_made l.fn.self.maker.nodes l.fn.self.bits l.left l.bit ≡ row_made l.self.maker.nodes l.self.bits (drop l.i l.left) l.bit;
}
