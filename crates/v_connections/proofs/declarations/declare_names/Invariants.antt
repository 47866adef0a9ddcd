use Rattle.std.proofs.Common.{◌≡◌, drop}
use Rattle.v_hierarchy.specs.Items.{named_as}
use Rattle.v_hierarchy.specs.Steps.{each}
use Rattle.v_hierarchy.specs.Views.{standing_of}
use Rattle.v_scopes.specs.Around.{names_in, outer_of}
use Rattle.v_connections.proofs.declarations.declare_names.Given as goal

abbrev pub invariant-loop-name : goal.invariant-loop-name
invariant-loop-name l = record {
  around : outer_of l.scopes ≡ outer_of l.fn.scopes;
  rest : each (named_as (standing_of l.standing)) (drop l.name-index l.names) (names_in l.scopes) ≡ each (named_as (standing_of l.standing)) l.names (names_in l.fn.scopes);
}
