use Rattle.std.proofs.Common.{◌≡◌, drop, false}
use Rattle.gate_base.specs.declared.literal.Literal.TheVariants.{Known}
use Rattle.bit_words.specs.Index.{pick_made}
use Rattle.bit_words.proofs.word_maker.WordMaker.pick.Given as goal

abbrev pub invariant-loop-i : goal.invariant-loop-i
invariant-loop-i l = record {
  limit : l.self.maker.limit ≡ l.fn.self.maker.limit;
  bits : l.self.bits ≡ l.fn.self.bits;
  rest : pick_made l.fn.self.maker.nodes (Known false) l.index l.word l.names ≡ pick_made l.self.maker.nodes l.so_far l.index (drop l.i l.word) (drop l.i l.names);
}
