use Rattle.std.proofs.Common.{◌≡◌, length}
use Rattle.trail_core.specs.TrailState.{Propagates}
use Rattle.trail_core.specs.Watching.{KeepsMarks, list_of}
use Rattle.trail_core.specs.Visits.{IsGoing}
use Rattle.trail_core.proofs.watch.sweep_list.Given as goal

abbrev pub invariant-loop-place : goal.invariant-loop-place
invariant-loop-place l = record {
  going : IsGoing l.trail l.watches l.sweep l.place;
  appends : Propagates l.fn.trail l.trail;
  gone : l.sweep.gone ≡ l.fn.gone;
  end : l.place-end ≡ length (list_of l.watches.lists.items l.fn.gone);
  size : length l.watches.pairs.items ≡ length l.fn.watches.pairs.items;
  marks : KeepsMarks l.fn.watches.pairs.items l.watches.pairs.items;
  gone_over : l.watches.gone_over ≡ l.fn.watches.gone_over;
}
