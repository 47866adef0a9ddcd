use Rattle.std.proofs.Common.{◌≡◌, [], map, drop}
use Rattle.v_syntax.specs.ItemTree.{connection_of}
use Rattle.v_hierarchy.specs.Items.{connected}
use Rattle.v_hierarchy.specs.Steps.{each}
use Rattle.v_scopes.specs.Listed.{listed}
use Rattle.v_connections.proofs.connections.all_connected.Given as goal

abbrev pub invariant-loop-connection : goal.invariant-loop-connection
invariant-loop-connection l =
    each (connected (listed l.ports)) (map connection_of (drop l.connection-index l.connections)) (listed l.seen)
    ≡ each (connected (listed l.ports)) (map connection_of l.connections) []
