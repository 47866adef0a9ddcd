use Rattle.std.proofs.Common.{◌≡◌, map, drop}
use Rattle.v_syntax.specs.Tree.{tree_of, trees_of}
use Rattle.v_binding.specs.Lefts.{nothing_named}
use Rattle.v_binding.specs.Seen.{names_in}
use Rattle.bind_scopes.specs.TreeTargets.{targets_of_trees}
use Rattle.bind_scopes.proofs.connected.+written_left.Given as goal

abbrev pub invariant-targets_of-loop-e : goal.invariant-targets_of-loop-e
invariant-targets_of-loop-e l =
    targets_of_trees (names_in l.names) (trees_of (map tree_of (drop l.e-index l.list))) l.done
    ≡ targets_of_trees (names_in l.names) (trees_of (map tree_of l.list)) nothing_named
