use Rattle.std.proofs.Common.{◌≡◌, [], map, drop}
use Rattle.v_syntax.specs.Tree.{tree_of}
use Rattle.v_binding.specs.Steps.{each}
use Rattle.v_binding.specs.Cases.{label_at}
use Rattle.v_binding.specs.Seen.{names_in}
use Rattle.bind_statements.specs.Contexts.{context_of}
use Rattle.bind_statements.proofs.labels.labels_at.Given as goal

abbrev pub invariant-loop-label : goal.invariant-loop-label
invariant-loop-label l =
    each (label_at (names_in l.names) (context_of l.context)) (map tree_of (drop l.label-index l.labels)) l.list
    ≡ each (label_at (names_in l.names) (context_of l.context)) (map tree_of l.labels) []
