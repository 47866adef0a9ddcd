use Rattle.std.proofs.Common.{◌-◌, ◌≤◌}
use Rattle.list_verdict.specs.Judging.{NoneWithin}
use Rattle.list_verdict.proofs.holding.first_held.Given as goal

abbrev pub invariant-loop-from : goal.invariant-loop-from
invariant-loop-from l =
    record {
      most : l.from ≤ l.place;
      none : NoneWithin l.sets l.outer l.from;
    }

abbrev pub decreases-loop-from : goal.decreases-loop-from
decreases-loop-from l = l.place - l.from
