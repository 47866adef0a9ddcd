use Rattle.std.proofs.Common.{◌≡◌, drop}
use Rattle.bit_words.specs.Bitwise.{bitwise_made}
use Rattle.bit_words.proofs.word_maker.WordMaker.bitwise.Given as goal

abbrev pub invariant-loop-i : goal.invariant-loop-i
invariant-loop-i l = record {
  limit : l.self.maker.limit ≡ l.fn.self.maker.limit;
  rest : bitwise_made l.operator l.fn.self.maker.nodes l.fn.self.bits l.left l.right ≡ bitwise_made l.operator l.self.maker.nodes l.self.bits (drop l.i l.left) (drop l.i l.right);
}
