use Rattle.std.proofs.Common.{◌≡◌, ◌++◌, drop, map}
use Rattle.v_syntax.specs.ModuleTree.{declared_ports, port_of as plain_port}
use Rattle.v_scopes.specs.Around.{names_in}
use Rattle.v_hierarchy.specs.Headers.{ports_of}
use Rattle.v_hierarchy.specs.Views.{port_of}
use Rattle.v_scopes.proofs.scope_stack.Scopes.ports_declared.Given as goal

abbrev pub invariant-loop-port : goal.invariant-loop-port
invariant-loop-port l =
    map port_of l.list ++ ports_of (declared_ports (map plain_port (drop l.port-index l.ports))) (names_in l.self) ≡ ports_of (declared_ports (map plain_port l.ports)) (names_in l.self)
