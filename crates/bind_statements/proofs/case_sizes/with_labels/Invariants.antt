use Rattle.std.proofs.Common.{◌≡◌, map, drop}
use Rattle.v_syntax.specs.Tree.{tree_of}
use Rattle.v_binding.specs.Steps.{through}
use Rattle.v_binding.specs.Cases.{with_label}
use Rattle.v_binding.specs.Seen.{names_in}
use Rattle.bind_statements.specs.Contexts.{context_of}
use Rattle.bind_statements.proofs.case_sizes.with_labels.Given as goal

abbrev pub invariant-loop-label : goal.invariant-loop-label
invariant-loop-label l =
    through (with_label (names_in l.names)) (map tree_of (drop l.label-index l.labels)) (context_of l.all)
    ≡ through (with_label (names_in l.names)) (map tree_of l.labels) (context_of l.fn.context)
