use Rattle.std.proofs.Common.{◌≡◌, [], map, drop}
use Rattle.v_hierarchy.specs.Views.{instance_of}
use Rattle.v_binding.specs.Steps.{through}
use Rattle.v_binding.specs.Signals.{with_instance, signals_of}
use Rattle.v_binding.specs.Seen.{names_in}
use Rattle.v_binding.specs.Standing.{InstancesStand}
use Rattle.bind_scopes.specs.Views.{scope_of, numbered_of}
use Rattle.bind_signals.proofs.instances.signals_of.Given as goal

abbrev pub invariant-loop-instance : goal.invariant-loop-instance
invariant-loop-instance l = record {
  stand : InstancesStand (map instance_of (drop l.instance-index l.instances.list));
  seen : names_in l.met.seen ≡ [];
  rest : through with_instance (map instance_of (drop l.instance-index l.instances.list)) (record { scopes = map scope_of l.scopes; signals = map numbered_of l.met.signals })
      ≡ signals_of (map instance_of l.instances.list);
}
