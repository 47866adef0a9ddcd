use Rattle.std.proofs.Common.{◌≡◌, map, drop}
use Rattle.v_syntax.specs.ItemTree.{instance_of as plain_instance}
use Rattle.v_syntax.specs.ModuleTree.{module_of}
use Rattle.v_hierarchy.specs.Items.{instance_of}
use Rattle.v_hierarchy.specs.Steps.{each}
use Rattle.v_hierarchy.specs.Views.{given_of}
use Rattle.v_connections.specs.Places.{place_of}
use Rattle.v_elaborate.specs.Met.{met_of, outer_at}
use Rattle.v_elaborate.proofs.met.Met.instances.Given as goal

abbrev pub invariant-loop-instance : goal.invariant-loop-instance
invariant-loop-instance l = record {
  around : outer_at l.self ≡ outer_at l.fn.self;
  rest : each (instance_of (place_of l.place (outer_at l.fn.self)) l.making.site (module_of l.making.unit.now) (map given_of l.making.values))
      (map plain_instance (drop l.instance-index l.instances)) (met_of l.self)
      ≡ each (instance_of (place_of l.place (outer_at l.fn.self)) l.making.site (module_of l.making.unit.now) (map given_of l.making.values))
      (map plain_instance l.instances) (met_of l.fn.self);
}
