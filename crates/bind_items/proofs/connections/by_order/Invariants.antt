use Rattle.std.proofs.Common.{◌≡◌, drop, map}
use Rattle.std.specs.Prelude.{option_map}
use Rattle.v_syntax.specs.Tree.{tree_of}
use Rattle.v_binding.specs.Connections.{by_order}
use Rattle.v_binding.specs.Seen.{names_in}
use Rattle.v_binding.specs.Homes.{home_of}
use Rattle.bind_scopes.specs.Views.{socket_of}
use Rattle.bind_items.proofs.connections.by_order.Given as goal

abbrev pub invariant-loop-i : goal.invariant-loop-i
invariant-loop-i l =
    by_order l.scene.frame.now (home_of l.scene.home) (names_in l.names) l.all.copy (map socket_of (drop l.i l.all.ports.now)) (map (option_map tree_of) (drop l.i l.all.values.now)) l.bound
    ≡ by_order l.scene.frame.now (home_of l.scene.home) (names_in l.names) l.all.copy (map socket_of l.all.ports.now) (map (option_map tree_of) l.all.values.now) l.initial.bound
