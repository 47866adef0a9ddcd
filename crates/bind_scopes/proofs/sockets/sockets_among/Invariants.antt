use Rattle.std.proofs.Common.{◌≡◌, ◌++◌, map, drop}
use Rattle.v_hierarchy.specs.Views.{port_of}
use Rattle.v_binding.specs.Connections.{socket}
use Rattle.v_binding.specs.Seen.{names_in}
use Rattle.v_binding.specs.Standing.{PortsStand}
use Rattle.bind_scopes.specs.Views.{socket_of}
use Rattle.bind_scopes.proofs.sockets.sockets_among.Given as goal

abbrev pub invariant-loop-port : goal.invariant-loop-port
invariant-loop-port l = record {
  stand : PortsStand (map port_of (drop l.port-index l.ports));
  rest : map socket_of l.list ++ map (socket (names_in l.names)) (map port_of (drop l.port-index l.ports)) ≡ map (socket (names_in l.names)) (map port_of l.ports);
}
