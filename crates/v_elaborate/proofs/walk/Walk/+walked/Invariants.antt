use Rattle.std.proofs.Common.{◌≡◌, ◌-◌, Some, map, drop, length}
use Rattle.v_hierarchy.specs.Instances.{walked}
use Rattle.v_hierarchy.specs.Steps.{each}
use Rattle.v_hierarchy.specs.Views.{child_of}
use Rattle.v_scopes.specs.Units.{units_of}
use Rattle.v_elaborate.specs.Walking.{found_of}
use Rattle.v_elaborate.proofs.walk.Walk.+walked.Given as goal

abbrev pub decreases-walked : goal.decreases-walked
decreases-walked l = l.levels

abbrev pub invariant-loop-child : goal.invariant-loop-child
invariant-loop-child l = record {
  units : l.self.units ≡ l.fn.self.units;
  rest : each (walked (units_of l.fn.self.units.now) (l.levels - 1) (Some l.number)) (map child_of (drop l.child-index l.child-items)) (found_of l.self)
      ≡ each (walked (units_of l.fn.self.units.now) (l.levels - 1) (Some l.number)) (map child_of l.child-items) (found_of l.initial.self);
}
