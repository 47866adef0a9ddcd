use Rattle.std.proofs.Common.{◌≡◌, map, drop}
use Rattle.v_hierarchy.specs.Views.{port_of}
use Rattle.v_binding.specs.Steps.{through}
use Rattle.v_binding.specs.Signals.{with_port}
use Rattle.v_binding.specs.Seen.{names_in}
use Rattle.v_binding.specs.Standing.{PortsStand}
use Rattle.bind_signals.specs.Scopings.{scoping_of}
use Rattle.bind_signals.specs.Grounds.{ground_in}
use Rattle.bind_signals.proofs.instances.add_ports.Given as goal

abbrev pub invariant-loop-port : goal.invariant-loop-port
invariant-loop-port l = record {
  stand : PortsStand (map port_of (drop l.port-index l.ports));
  seen : names_in l.met.seen ≡ names_in l.initial.met.seen;
  rest : through (with_port l.top (ground_in l.ground (names_in l.initial.met.seen))) (map port_of (drop l.port-index l.ports)) (scoping_of l.met)
      ≡ through (with_port l.top (ground_in l.ground (names_in l.initial.met.seen))) (map port_of l.ports) (scoping_of l.initial.met);
}
