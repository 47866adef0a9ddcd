use Rattle.std.proofs.Common.{◌≡◌, map, drop}
use Rattle.v_hierarchy.specs.Views.{instance_of}
use Rattle.v_binding.specs.Binding.{bound_from}
use Rattle.v_binding.specs.Standing.{InstancesStand}
use Rattle.bind_scopes.specs.Views.{scope_of, socket_of}
use Rattle.v_design.proofs.walk.bound_all.Given as goal

abbrev pub invariant-loop-at : goal.invariant-loop-at
invariant-loop-at l = record {
  stand : InstancesStand (map instance_of (drop l.at l.instances));
  rest : bound_from l.frame (map instance_of l.instances) (map (map socket_of) l.ports) l.at (map instance_of (drop l.at l.instances))
      (map scope_of (drop l.at l.scopes)) l.bound
      ≡ bound_from l.frame (map instance_of l.instances) (map (map socket_of) l.ports) 0 (map instance_of l.instances)
      (map scope_of l.scopes) l.initial.bound;
}
