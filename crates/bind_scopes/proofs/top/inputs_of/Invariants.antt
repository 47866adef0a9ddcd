use Rattle.std.proofs.Common.{◌≡◌, ◌++◌, map, drop}
use Rattle.v_binding.specs.Binding.{inputs_of}
use Rattle.bind_scopes.specs.Views.{socket_of}
use Rattle.bind_scopes.proofs.top.inputs_of.Given as goal

abbrev pub invariant-loop-port : goal.invariant-loop-port
invariant-loop-port l = l.inputs ++ inputs_of l.clock (map socket_of (drop l.port-index l.ports)) ≡ inputs_of l.clock (map socket_of l.ports)
