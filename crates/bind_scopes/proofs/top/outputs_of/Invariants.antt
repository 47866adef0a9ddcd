use Rattle.std.proofs.Common.{◌≡◌, ◌++◌, map, drop}
use Rattle.v_binding.specs.Binding.{outputs_of}
use Rattle.bind_scopes.specs.Views.{socket_of}
use Rattle.bind_scopes.proofs.top.outputs_of.Given as goal

abbrev pub invariant-loop-port : goal.invariant-loop-port
invariant-loop-port l = l.outputs ++ outputs_of (map socket_of (drop l.port-index l.ports)) ≡ outputs_of (map socket_of l.ports)
