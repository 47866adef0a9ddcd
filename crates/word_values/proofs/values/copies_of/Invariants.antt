use Rattle.std.proofs.Common.{◌≡◌, map, take, string_bytes}
use Rattle.word_values.proofs.values.copies_of.Given as goal

abbrev pub invariant-loop-word : goal.invariant-loop-word
invariant-loop-word l = record {
  copied : map string_bytes l.texts.items ≡ map (λ w. w.now) (take l.word-index l.words);
}
