use Rattle.std.proofs.Common.{◌≡◌, drop, map}
use Rattle.std.specs.List.{list_any}
use Rattle.word_values.specs.Paths.{path_begins}
use Rattle.word_values.proofs.paths.one_path_begins_with.Given as goal

abbrev pub invariant-loop-name : goal.invariant-loop-name
invariant-loop-name l = record {
  rest : list_any (path_begins l.front) (map (λ w. w.now) l.names)
      ≡ list_any (path_begins l.front) (map (λ w. w.now) (drop l.name-index l.names));
}
