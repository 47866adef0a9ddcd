use Rattle.std.proofs.Common.{◌≡◌, ◌++◌, drop, map}
use Rattle.v_syntax.specs.ModuleTree.{port_of}
use Rattle.v_hierarchy.specs.Headers.{named_port}
use Rattle.v_scopes.specs.Listed.{listed}
use Rattle.v_scopes.proofs.headers.add_declared.Given as goal

abbrev pub invariant-loop-port : goal.invariant-loop-port
invariant-loop-port l =
    listed l.list ++ map (λ p. p.0.name) (map named_port (map port_of (drop l.port-index l.ports)))
    ≡ listed l.initial.list ++ map (λ p. p.0.name) (map named_port (map port_of l.ports))
