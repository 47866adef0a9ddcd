use Rattle.std.proofs.Common.{◌≡◌, [], drop, map}
use Rattle.v_syntax.specs.ItemTree.{connection_of}
use Rattle.v_scopes.specs.Around.{frames_of}
use Rattle.v_scopes.specs.Listed.{listed}
use Rattle.v_scopes.specs.NamedValues.{naming_of}
use Rattle.v_hierarchy.specs.Names.{look_in}
use Rattle.v_hierarchy.specs.Parameters.{given_by_name}
use Rattle.v_hierarchy.specs.Steps.{each}
use Rattle.v_scopes.proofs.scope_stack.Scopes.given_by_names.Given as goal

abbrev pub invariant-loop-connection : goal.invariant-loop-connection
invariant-loop-connection l =
    each (given_by_name (look_in (frames_of l.self)) (listed l.names)) (map connection_of (drop l.connection-index l.connections)) (naming_of l.met)
    ≡ each (given_by_name (look_in (frames_of l.self)) (listed l.names)) (map connection_of l.connections) (record { seen = []; done = [] })
