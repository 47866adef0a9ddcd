use Rattle.std.proofs.Common.{◌≡◌, drop, map}
use Rattle.std.specs.List.{list_all}
use Rattle.word_values.specs.Values.{is_file_name}
use Rattle.word_values.proofs.values.are_file_names.Given as goal

abbrev pub invariant-loop-word : goal.invariant-loop-word
invariant-loop-word l = record {
  rest : list_all is_file_name (map (λ w. w.now) l.words)
      ≡ list_all is_file_name (map (λ w. w.now) (drop l.word-index l.words));
}
