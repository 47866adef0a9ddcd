use Rattle.std.proofs.Common.{◌≡◌, drop, length}
use Rattle.bit_words.specs.Add.{zeros}
use Rattle.bit_words.specs.Multiply.{rows_added}
use Rattle.bit_words.proofs.word_maker.WordMaker.multiply.Given as goal

abbrev pub invariant-loop-place : goal.invariant-loop-place
invariant-loop-place l = record {
  limit : l.self.maker.limit ≡ l.fn.self.maker.limit;
  rest : rows_added l.fn.self.maker.nodes (zeros (length l.left)) l.left 0 l.right ≡ rows_added l.self.maker.nodes l.self.bits l.left l.place (drop l.place l.right);
}
