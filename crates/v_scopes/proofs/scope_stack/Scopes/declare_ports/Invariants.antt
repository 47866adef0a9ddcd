use Rattle.std.proofs.Common.{◌≡◌, [], drop, map}
use Rattle.v_syntax.specs.ModuleTree.{port_of}
use Rattle.v_scopes.specs.Around.{names_in, outer_of}
use Rattle.v_hierarchy.specs.Headers.{port_at, nothing_before}
use Rattle.v_hierarchy.specs.Stands.{IsRangeIf}
use Rattle.v_hierarchy.specs.Steps.{each}
use Rattle.v_scopes.proofs.scope_stack.Scopes.declare_ports.Given as goal

abbrev pub invariant-loop-port : goal.invariant-loop-port
invariant-loop-port l = record {
  left : each port_at (map port_of (drop l.port-index l.ports)) (record { before = l.before; names = names_in l.self })
      ≡ each port_at (map port_of l.ports) (record { before = nothing_before; names = names_in l.initial.self });
  alone : outer_of l.self ≡ [];
  fits : IsRangeIf l.before.bounds;
}
