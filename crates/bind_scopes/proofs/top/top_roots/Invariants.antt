use Rattle.std.proofs.Common.{◌≡◌, ◌++◌, map, drop}
use Rattle.v_binding.specs.Binding.{top_roots}
use Rattle.bind_scopes.specs.Views.{socket_of}
use Rattle.bind_scopes.proofs.top.top_roots.Given as goal

abbrev pub invariant-loop-port : goal.invariant-loop-port
invariant-loop-port l = l.roots ++ top_roots (map socket_of (drop l.port-index l.ports)) ≡ top_roots (map socket_of l.ports)
