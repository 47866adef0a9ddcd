use Rattle.std.proofs.Common.{◌≡◌, ◌++◌, drop, map}
use Rattle.v_syntax.specs.ItemTree.{item_of, items_of}
use Rattle.v_hierarchy.specs.Headers.{directed_in_all}
use Rattle.v_scopes.specs.Listed.{listed}
use Rattle.v_scopes.proofs.open_names.+directed.Given as goal

abbrev pub invariant-add_all_directed-loop-item : goal.invariant-add_all_directed-loop-item
invariant-add_all_directed-loop-item l =
    listed l.list ++ directed_in_all (items_of (map item_of (drop l.item-index l.items))) ≡ listed l.initial.list ++ directed_in_all (items_of (map item_of l.items))
