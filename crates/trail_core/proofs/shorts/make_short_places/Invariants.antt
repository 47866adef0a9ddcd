use Rattle.std.proofs.Common.{take}
use Rattle.trail_core.specs.Shorts.{SameShorts, HaveShortPlaces}
use Rattle.trail_core.proofs.shorts.make_short_places.Given as goal

abbrev pub invariant-loop-l : goal.invariant-loop-l
invariant-loop-l l = record {
  same : SameShorts l.fn.shorts l.shorts;
  places : HaveShortPlaces l.shorts (take l.l-index l.literals);
}
