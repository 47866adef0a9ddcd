use Rattle.std.proofs.Common.{◌≡◌, drop, true}
use Rattle.gate_base.specs.declared.literal.Literal.TheVariants.{Known}
use Rattle.bit_words.specs.Index.{number_made}
use Rattle.bit_words.proofs.index.is_number.Given as goal

abbrev pub invariant-loop-i : goal.invariant-loop-i
invariant-loop-i l = record {
  limit : l.maker.limit ≡ l.fn.maker.limit;
  rest : number_made l.fn.maker.nodes (Known true) l.word l.number ≡ number_made l.maker.nodes l.so_far (drop l.i l.word) l.rest;
}
