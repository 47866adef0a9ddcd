use Rattle.std.proofs.Common.{◌≡◌, map, drop}
use Rattle.v_hierarchy.specs.Views.{instance_of}
use Rattle.bind_scopes.specs.Children.{rows_from, rows_of}
use Rattle.bind_scopes.proofs.children.rows_of.Given as goal

abbrev pub invariant-loop-instance : goal.invariant-loop-instance
invariant-loop-instance l = record {
  place : l.at ≡ l.instance-index;
  rest : rows_from l.at (map instance_of (drop l.instance-index l.list)) l.rows.items ≡ rows_of (map instance_of l.list);
}
