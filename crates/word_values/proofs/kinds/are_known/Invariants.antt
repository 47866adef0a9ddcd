use Rattle.std.proofs.Common.{◌≡◌, drop, map}
use Rattle.std.specs.List.{list_all}
use Rattle.word_values.specs.Values.{is_one_of}
use Rattle.word_values.proofs.kinds.are_known.Given as goal

abbrev pub invariant-loop-name : goal.invariant-loop-name
invariant-loop-name l = record {
  rest : list_all (is_one_of (map (λ w. w.now) l.known)) (map (λ w. w.now) l.names)
      ≡ list_all (is_one_of (map (λ w. w.now) l.known)) (map (λ w. w.now) (drop l.name-index l.names));
}
