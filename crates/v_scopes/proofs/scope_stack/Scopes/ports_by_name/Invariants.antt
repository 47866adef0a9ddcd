use Rattle.std.proofs.Common.{◌≡◌, ◌++◌, drop, map}
use Rattle.v_syntax.specs.ModuleTree.{name_ports}
use Rattle.v_scopes.specs.Around.{names_in}
use Rattle.v_hierarchy.specs.Headers.{ports_of}
use Rattle.v_hierarchy.specs.Views.{port_of}
use Rattle.v_scopes.proofs.scope_stack.Scopes.ports_by_name.Given as goal

abbrev pub invariant-loop-name : goal.invariant-loop-name
invariant-loop-name l = map port_of l.list ++ ports_of (name_ports (drop l.name-index l.names)) (names_in l.self) ≡ ports_of (name_ports l.names) (names_in l.self)
