use Rattle.std.proofs.Common.{◌≡◌, [], drop}
use Rattle.v_hierarchy.specs.Headers.{port_name}
use Rattle.v_scopes.specs.Listed.{listed}
use Rattle.v_hierarchy.specs.Steps.{each}
use Rattle.v_scopes.proofs.headers.port_names_fit.Given as goal

abbrev pub invariant-loop-name : goal.invariant-loop-name
invariant-loop-name l = each (port_name (listed l.directed)) (drop l.name-index l.names) (listed l.seen) ≡ each (port_name (listed l.directed)) l.names []
