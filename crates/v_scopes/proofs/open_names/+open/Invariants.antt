use Rattle.std.proofs.Common.{◌≡◌, ◌++◌, drop, map}
use Rattle.v_syntax.specs.ItemTree.{item_of, items_of}
use Rattle.v_hierarchy.specs.Parameters.{open_in_all}
use Rattle.v_scopes.specs.Listed.{listed}
use Rattle.v_scopes.proofs.open_names.+open.Given as goal

abbrev pub invariant-add_all_open-loop-item : goal.invariant-add_all_open-loop-item
invariant-add_all_open-loop-item l =
    listed l.list ++ open_in_all (items_of (map item_of (drop l.item-index l.items))) ≡ listed l.initial.list ++ open_in_all (items_of (map item_of l.items))
