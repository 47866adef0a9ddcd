use Rattle.std.proofs.Common.{take}
use Rattle.trail_core.specs.Visits.{IsWider, HavePlaces}
use Rattle.trail_core.proofs.watches.make_places.Given as goal

abbrev pub invariant-loop-l : goal.invariant-loop-l
invariant-loop-l l = record {
  wider : IsWider l.fn.watches l.watches;
  places : HavePlaces l.fn.watches l.watches (take l.l-index l.literals);
}
