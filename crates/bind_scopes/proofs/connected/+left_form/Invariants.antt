use Rattle.std.proofs.Common.{◌≡◌, map, drop}
use Rattle.std.specs.Prelude.{is_some}
use Rattle.v_syntax.specs.Tree.{tree_of, trees_of}
use Rattle.v_binding.specs.Lefts.{as_lefts}
use Rattle.bind_scopes.proofs.connected.+left_form.Given as goal

abbrev pub invariant-are_lefts-loop-e : goal.invariant-are_lefts-loop-e
invariant-are_lefts-loop-e l =
    is_some (as_lefts (trees_of (map tree_of (drop l.e-index l.list)))) ≡ is_some (as_lefts (trees_of (map tree_of l.list)))
