use Rattle.std.proofs.Common.{◌≡◌, ◌++◌, map, drop}
use Rattle.v_hierarchy.specs.Views.{instance_of}
use Rattle.v_binding.specs.Binding.{all_sockets}
use Rattle.v_binding.specs.Standing.{InstancesStand}
use Rattle.bind_scopes.specs.Views.{scope_of, socket_of}
use Rattle.bind_scopes.proofs.sockets.all_sockets.Given as goal

abbrev pub invariant-loop-at : goal.invariant-loop-at
invariant-loop-at l = record {
  stand : InstancesStand (map instance_of (drop l.at l.list));
  rest : map (map socket_of) l.all ++ all_sockets (map instance_of (drop l.at l.list)) (map scope_of (drop l.at l.scopes))
      ≡ all_sockets (map instance_of l.list) (map scope_of l.scopes);
}
