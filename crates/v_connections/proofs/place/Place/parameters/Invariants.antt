use Rattle.std.proofs.Common.{◌≡◌, map, drop}
use Rattle.v_syntax.specs.PartTree.{named_of}
use Rattle.v_hierarchy.specs.Items.{parameter_of}
use Rattle.v_hierarchy.specs.Steps.{each}
use Rattle.v_scopes.specs.Around.{names_in, outer_of}
use Rattle.v_connections.specs.Places.{place_of}
use Rattle.v_connections.proofs.place.Place.parameters.Given as goal

abbrev pub invariant-loop-value : goal.invariant-loop-value
invariant-loop-value l = record {
  around : outer_of l.scopes ≡ outer_of l.fn.scopes;
  rest : each (parameter_of (place_of l.self (outer_of l.fn.scopes)) l.kind l.type_of) (map named_of (drop l.value-index l.values)) (names_in l.scopes)
      ≡ each (parameter_of (place_of l.self (outer_of l.fn.scopes)) l.kind l.type_of) (map named_of l.values) (names_in l.fn.scopes);
}
