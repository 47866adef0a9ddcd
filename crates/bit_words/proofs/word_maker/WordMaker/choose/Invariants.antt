use Rattle.std.proofs.Common.{◌≡◌, drop}
use Rattle.bit_words.specs.Choose.{choice_made}
use Rattle.bit_words.proofs.word_maker.WordMaker.choose.Given as goal

abbrev pub invariant-loop-i : goal.invariant-loop-i
invariant-loop-i l = record {
  limit : l.self.maker.limit ≡ l.fn.self.maker.limit;
  rest : choice_made l.fn.self.maker.nodes l.fn.self.bits l.condition l.yes l.no ≡ choice_made l.self.maker.nodes l.self.bits l.condition (drop l.i l.yes) (drop l.i l.no);
}
