use Rattle.trail_core.specs.TrailState.{IsTrail, Propagates}
use Rattle.trail_core.proofs.Sweeping.{AreSeen}
use Rattle.trail_core.proofs.sweep.sweep_shorts.Given as goal

abbrev pub invariant-loop-short : goal.invariant-loop-short
invariant-loop-short l = record {
  trail : IsTrail l.trail;
  appends : Propagates l.fn.trail l.trail;
  seen : AreSeen l.trail l.short-items l.short-index l.fn.place;
}
