use Rattle.std.proofs.Common.{◌-◌, ◌≤◌, length}
use Rattle.trail_core.specs.TrailState.{IsTrail, Propagates}
use Rattle.trail_core.specs.Watching.{AreMarked}
use Rattle.trail_core.specs.Shorts.{lists_of, HasShorts, AreDue}
use Rattle.trail_core.specs.Visits.{WatchesWell}
use Rattle.trail_core.proofs.propagation.sweep_all.Given as goal

abbrev pub invariant-loop-watches : goal.invariant-loop-watches
invariant-loop-watches l = record {
  trail : IsTrail l.trail;
  appends : Propagates l.fn.trail l.trail;
  well : WatchesWell l.trail l.watches l.shorts.fixed l.watches.gone_over;
  shorts : HasShorts l.trail.vars l.trail.clauses l.shorts.fixed (lists_of l.shorts);
  marked : AreMarked l.trail.clauses l.shorts.fixed l.watches.pairs.items;
  due : AreDue l.trail l.shorts.fixed (length l.watches.pairs.items) l.watches.gone_over;
  all : length l.trail.clauses ≤ length l.watches.pairs.items;
}

abbrev pub decreases-loop-watches : goal.decreases-loop-watches
decreases-loop-watches l = l.trail.vars - l.watches.gone_over
