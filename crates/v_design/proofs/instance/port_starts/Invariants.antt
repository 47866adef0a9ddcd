use Rattle.std.proofs.Common.{◌≡◌, drop, map}
use Rattle.v_hierarchy.specs.Views.{port_of}
use Rattle.v_binding.specs.Steps.{each}
use Rattle.v_binding.specs.Binding.{port_start}
use Rattle.v_binding.specs.Seen.{names_in}
use Rattle.v_design.proofs.instance.port_starts.Given as goal

abbrev pub invariant-loop-port : goal.invariant-loop-port
invariant-loop-port l =
    each (port_start (names_in l.names)) (map port_of (drop l.port-index l.ports)) l.bound ≡ each (port_start (names_in l.names)) (map port_of l.ports) l.initial.bound
