use Rattle.std.proofs.Common.{◌≡◌, map, drop}
use Rattle.v_syntax.specs.ItemTree.{declarator_of}
use Rattle.v_hierarchy.specs.Items.{net_of}
use Rattle.v_hierarchy.specs.Steps.{each}
use Rattle.v_scopes.specs.Around.{names_in, outer_of}
use Rattle.v_connections.proofs.declarations.nets.Given as goal

abbrev pub invariant-loop-declarator : goal.invariant-loop-declarator
invariant-loop-declarator l = record {
  around : outer_of l.scopes ≡ outer_of l.fn.scopes;
  rest : each (net_of l.signal) (map declarator_of (drop l.declarator-index l.names)) (names_in l.scopes) ≡ each (net_of l.signal) (map declarator_of l.names) (names_in l.fn.scopes);
}
