use Rattle.std.proofs.Common.{◌≡◌, length}
use Rattle.sat_core.proofs.TracingBack.{PlacesTo}
use Rattle.sat_core.proofs.tracing.places_of.Given as goal

abbrev pub invariant-loop-place : goal.invariant-loop-place
invariant-loop-place l = record {
  end : l.place-end ≡ length l.trail.entries;
  places : PlacesTo l.trail l.place l.places.items;
}
