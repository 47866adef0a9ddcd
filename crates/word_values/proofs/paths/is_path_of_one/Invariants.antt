use Rattle.std.proofs.Common.{◌≡◌, drop, map}
use Rattle.word_values.specs.Paths.{is_path_of_one}
use Rattle.word_values.proofs.paths.is_path_of_one.Given as goal

abbrev pub invariant-loop-other : goal.invariant-loop-other
invariant-loop-other l = record {
  rest : is_path_of_one (map (λ w. w.now) l.names) l.name ≡ is_path_of_one (map (λ w. w.now) (drop l.other-index l.names)) l.name;
}
