use Rattle.std.proofs.Common.{◌≡◌, drop}
use Rattle.v_hierarchy.specs.Items.{direction_of}
use Rattle.v_hierarchy.specs.Steps.{each}
use Rattle.v_scopes.specs.Around.{names_in, outer_of}
use Rattle.v_connections.specs.Places.{ports_at}
use Rattle.v_connections.proofs.place.Place.directions.Given as goal

abbrev pub invariant-loop-name : goal.invariant-loop-name
invariant-loop-name l = record {
  around : outer_of l.scopes ≡ outer_of l.fn.scopes;
  rest : each (direction_of (ports_at l.self) l.signal) (drop l.name-index l.names) (names_in l.scopes)
      ≡ each (direction_of (ports_at l.self) l.signal) l.names (names_in l.fn.scopes);
}
