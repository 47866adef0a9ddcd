use Rattle.std.proofs.Common.{◌≡◌, drop, map}
use Rattle.word_values.specs.Paths.{are_paths_once}
use Rattle.word_values.proofs.paths.are_paths_once.Given as goal

abbrev pub invariant-loop-at : goal.invariant-loop-at
invariant-loop-at l = record {
  rest : are_paths_once (map (λ w. w.now) l.names) ≡ are_paths_once (map (λ w. w.now) (drop l.at l.names));
}
