use Rattle.std.proofs.Common.{◌-◌, ◌<◌, ◌≤◌}
use Rattle.list_verdict.specs.Judging.{NoneWithin}
use Rattle.list_verdict.proofs.holding.past_gap.Given as goal

abbrev pub invariant-loop-low : goal.invariant-loop-low
invariant-loop-low l =
    record {
      later : l.from < l.low;
      low : l.low ≤ l.high;
      high : l.high ≤ l.place;
      none : NoneWithin l.sets l.outer l.low;
    }

abbrev pub decreases-loop-low : goal.decreases-loop-low
decreases-loop-low l = l.high - l.low
