use Rattle.std.proofs.Common.{◌≡◌, drop, map}
use Rattle.bit_words.specs.Bits.{turned}
use Rattle.bit_words.specs.Add.{sum_made}
use Rattle.bit_words.proofs.word_maker.WordMaker.sum.Given as goal

abbrev pub invariant-loop-i : goal.invariant-loop-i
invariant-loop-i l = record {
  limit : l.self.maker.limit ≡ l.fn.self.maker.limit;
  rest : sum_made l.fn.self.maker.nodes l.fn.self.bits l.left (map (turned l.negated) l.right) l.fn.first
      ≡ sum_made l.self.maker.nodes l.self.bits (drop l.i l.left) (drop l.i (map (turned l.negated) l.right)) l.carry;
}
