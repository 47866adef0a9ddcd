use Rattle.std.proofs.Common.{◌≡◌, drop, true}
use Rattle.gate_base.specs.declared.literal.Literal.TheVariants.{Known}
use Rattle.bit_words.specs.Equal.{equal_made}
use Rattle.bit_words.proofs.word_maker.WordMaker.equal.Given as goal

abbrev pub invariant-loop-i : goal.invariant-loop-i
invariant-loop-i l = record {
  limit : l.self.maker.limit ≡ l.fn.self.maker.limit;
  bits : l.self.bits ≡ l.fn.self.bits;
  rest : equal_made l.fn.self.maker.nodes (Known true) l.left l.right ≡ equal_made l.self.maker.nodes l.so_far (drop l.i l.left) (drop l.i l.right);
}
