use Rattle.std.proofs.Common.{◌≡◌, ◌++◌, map, drop}
use Rattle.v_hierarchy.specs.Instances.{children}
use Rattle.v_hierarchy.specs.Views.{child_of, copied_of, copies_of}
use Rattle.v_elaborate.proofs.children.+below.Given as goal

abbrev pub invariant-add_children-loop-copied : goal.invariant-add_children-loop-copied
invariant-add_children-loop-copied l =
    map child_of l.list ++ children (copies_of (map copied_of (drop l.copied-index l.copies))) ≡ map child_of l.fn.list ++ children (copies_of (map copied_of l.copies))
