use Rattle.std.proofs.Common.{◌≡◌, drop, map}
use Rattle.v_syntax.specs.ItemTree as tree
use Rattle.v_binding.specs.Steps.{each}
use Rattle.v_binding.specs.Gates.{gate_of}
use Rattle.v_binding.specs.Seen.{names_in}
use Rattle.v_binding.specs.Homes.{home_of}
use Rattle.bind_items.proofs.written.gates.Given as goal

abbrev pub invariant-loop-one : goal.invariant-loop-one
invariant-loop-one l =
    each (gate_of l.scene.frame.now (home_of l.scene.home) (names_in l.names) l.kind) (map tree.gate_of (drop l.one-index l.list)) l.bound
    ≡ each (gate_of l.scene.frame.now (home_of l.scene.home) (names_in l.names) l.kind) (map tree.gate_of l.list) l.initial.bound
