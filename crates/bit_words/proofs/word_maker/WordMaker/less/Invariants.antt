use Rattle.std.proofs.Common.{◌≡◌, drop, map, true}
use Rattle.gate_base.specs.declared.literal.Literal.TheVariants.{Known}
use Rattle.gate_base.specs.Literals.{opposite}
use Rattle.bit_words.specs.Less.{carries_made, with_top}
use Rattle.bit_words.proofs.word_maker.WordMaker.less.Given as goal

abbrev pub invariant-loop-i : goal.invariant-loop-i
invariant-loop-i l = record {
  limit : l.self.maker.limit ≡ l.fn.self.maker.limit;
  bits : l.self.bits ≡ l.fn.self.bits;
  rest : carries_made l.fn.self.maker.nodes (Known true) (with_top l.signed l.left) (map opposite (with_top l.signed l.right))
      ≡ carries_made l.self.maker.nodes l.carried (drop l.i (with_top l.signed l.left)) (drop l.i (map opposite (with_top l.signed l.right)));
}
