use Rattle.std.proofs.Common.{◌≡◌, map, drop}
use Rattle.v_binding.specs.Binding.{clock_among}
use Rattle.bind_scopes.specs.Views.{socket_of}
use Rattle.bind_scopes.proofs.top.clock_among.Given as goal

abbrev pub invariant-loop-port : goal.invariant-loop-port
invariant-loop-port l = clock_among l.name (map socket_of (drop l.port-index l.ports)) ≡ clock_among l.name (map socket_of l.ports)
