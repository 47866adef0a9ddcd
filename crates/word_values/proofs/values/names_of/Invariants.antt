use Rattle.std.proofs.Common.{◌≡◌, drop, map, take, true}
use Rattle.std.specs.List.{list_all}
use Rattle.word_values.specs.Values.{is_name}
use Rattle.word_values.proofs.values.names_of.Given as goal

abbrev pub invariant-loop-word : goal.invariant-loop-word
invariant-loop-word l = record {
  copied : l.names.items ≡ map (λ w. w.now) (take l.word-index l.words);
  rest : list_all is_name (map (λ w. w.now) (drop l.word-index l.words)) ≡ true;
}
