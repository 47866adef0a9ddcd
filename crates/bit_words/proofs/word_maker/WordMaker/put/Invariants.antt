use Rattle.std.proofs.Common.{◌≡◌, drop}
use Rattle.bit_words.specs.Index.{put_made}
use Rattle.bit_words.proofs.word_maker.WordMaker.put.Given as goal

abbrev pub invariant-loop-i : goal.invariant-loop-i
invariant-loop-i l = record {
  limit : l.self.maker.limit ≡ l.fn.self.maker.limit;
  bits : l.self.bits ≡ l.fn.self.bits;
  rest : put_made l.fn.self.maker.nodes l.fn.old l.index l.value l.names ≡ put_made l.self.maker.nodes l.so_far l.index (drop l.i l.value) (drop l.i l.names);
}
