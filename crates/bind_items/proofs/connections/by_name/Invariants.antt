use Rattle.std.proofs.Common.{◌≡◌, drop, map}
use Rattle.v_syntax.specs.ItemTree.{connection_of}
use Rattle.v_binding.specs.Connections.{by_name}
use Rattle.v_binding.specs.Seen.{names_in}
use Rattle.v_binding.specs.Homes.{home_of}
use Rattle.bind_scopes.specs.Views.{socket_of}
use Rattle.bind_items.proofs.connections.by_name.Given as goal

abbrev pub invariant-loop-i : goal.invariant-loop-i
invariant-loop-i l =
    by_name l.scene.frame.now (home_of l.scene.home) (names_in l.names) l.all.copy (map connection_of l.all.list.now) (map socket_of (drop l.i l.all.ports.now)) l.bound
    ≡ by_name l.scene.frame.now (home_of l.scene.home) (names_in l.names) l.all.copy (map connection_of l.all.list.now) (map socket_of l.all.ports.now) l.initial.bound
