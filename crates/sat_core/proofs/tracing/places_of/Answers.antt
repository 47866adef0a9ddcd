use Rattle.std.proofs.Common.{◌≡◌, ◌<◌, length, refl, arith}
use Rattle.sat_core.proofs.Resolving.{place_lit}
use Rattle.sat_core.proofs.TracingBack.{PlacesTo-more}
use Rattle.sat_core.proofs.tracing.places_of.Goals as goal

pub loop-place-preserved : goal.loop-place-preserved
loop-place-preserved c =
    let within : c.loop-place.place < length c.args.trail.now.entries = omega (arith, c.loop-place-test.true, c.loop-place.invariant.end) in
    record {
      end = c.loop-place.invariant.end;
      places = PlacesTo-more c.args.trail.now c.loop-place.place c.loop-place.places.items _ c.unwrap-l.result c.requires.trail within
          (place_lit c.args.trail.now.entries c.loop-place.place c.unwrap-l.result c.at.result within c.at.ensures c.unwrap-l.ensures) c.loop-place.invariant.places refl;
    }
