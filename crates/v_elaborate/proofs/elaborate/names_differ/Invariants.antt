use Rattle.std.proofs.Common.{◌≡◌, [], map, drop}
use Rattle.v_syntax.specs.ModuleTree.{module_of}
use Rattle.v_hierarchy.specs.Instances.{unit_name}
use Rattle.v_hierarchy.specs.Steps.{each}
use Rattle.v_scopes.specs.Listed.{listed}
use Rattle.v_elaborate.proofs.elaborate.names_differ.Given as goal

abbrev pub invariant-loop-module : goal.invariant-loop-module
invariant-loop-module l = each unit_name (map module_of (drop l.module-index l.modules)) (listed l.seen) ≡ each unit_name (map module_of l.modules) []
