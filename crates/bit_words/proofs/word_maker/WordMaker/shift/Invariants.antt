use Rattle.std.proofs.Common.{◌≡◌, drop, length}
use Rattle.bit_words.specs.Shift.{stages_made}
use Rattle.bit_words.proofs.word_maker.WordMaker.shift.Given as goal

abbrev pub invariant-loop-i : goal.invariant-loop-i
invariant-loop-i l = record {
  limit : l.self.maker.limit ≡ l.fn.self.maker.limit;
  width : length l.self.bits ≡ length l.left;
  rest : stages_made l.fn.self.maker.nodes l.shift.direction l.shift.fill 1 l.by l.left
      ≡ stages_made l.self.maker.nodes l.shift.direction l.shift.fill l.places (drop l.i l.by) l.self.bits;
}
