use Rattle.std.proofs.Common.{◌≡◌, ◌∷◌, length}
use Rattle.std.specs.Path.{component_bytes, components_remaining}
use Rattle.word_values.specs.Paths.{begin_parts, path_begins}
use Rattle.word_values.proofs.paths.path_begins_with.Given as goal

abbrev pub invariant-loop-next : goal.invariant-loop-next
invariant-loop-next l = record {
  rest : path_begins l.front l.name ≡ begin_parts (component_bytes l.last ∷ components_remaining l.left) (components_remaining l.right);
}

abbrev pub decreases-loop-next : goal.decreases-loop-next
decreases-loop-next l = length (components_remaining l.left)
