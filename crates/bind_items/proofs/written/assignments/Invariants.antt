use Rattle.std.proofs.Common.{◌≡◌, drop, map}
use Rattle.v_syntax.specs.ItemTree as tree
use Rattle.v_binding.specs.Steps.{each}
use Rattle.v_binding.specs.Assignments.{assignment_of}
use Rattle.v_binding.specs.Seen.{names_in}
use Rattle.v_binding.specs.Homes.{home_of}
use Rattle.bind_items.proofs.written.assignments.Given as goal

abbrev pub invariant-loop-one : goal.invariant-loop-one
invariant-loop-one l =
    each (assignment_of l.scene.frame.now (home_of l.scene.home) (names_in l.names)) (map tree.assignment_of (drop l.one-index l.list)) l.bound
    ≡ each (assignment_of l.scene.frame.now (home_of l.scene.home) (names_in l.names)) (map tree.assignment_of l.list) l.initial.bound
