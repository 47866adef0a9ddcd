use Rattle.std.proofs.Common.{◌-◌, length}
use Rattle.trail_core.specs.TrailState.{IsTrail, Propagates}
use Rattle.trail_core.specs.Watching.{AreMarked}
use Rattle.trail_core.specs.Shorts.{AreDue}
use Rattle.trail_core.specs.Visits.{WatchesWell}
use Rattle.trail_core.proofs.watch.pair_all.Given as goal

abbrev pub invariant-loop-trail : goal.invariant-loop-trail
invariant-loop-trail l = record {
  trail : IsTrail l.trail;
  appends : Propagates l.fn.trail l.trail;
  well : WatchesWell l.trail l.watches l.fixed l.watches.gone_over;
  marked : AreMarked l.trail.clauses l.fixed l.watches.pairs.items;
  due : AreDue l.trail l.fixed (length l.watches.pairs.items) l.watches.gone_over;
}

abbrev pub decreases-loop-trail : goal.decreases-loop-trail
decreases-loop-trail l = length l.trail.clauses - length l.watches.pairs.items
