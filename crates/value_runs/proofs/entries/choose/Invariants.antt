use Rattle.std.proofs.Common.{◌≡◌, ◌≤◌, length}
use Rattle.cycle_sim.proofs.Choosing.{ChosenSoFar}
use Rattle.value_runs.proofs.entries.choose.Given as goal

abbrev pub invariant-loop-left : goal.invariant-loop-left
invariant-loop-left l =
    record {
      most : l.left ≤ length l.places;
      length : length l.choice ≡ length l.initial.choice;
      value : ChosenSoFar l.places l.row l.initial.choice l.choice l.left;
    }

abbrev pub decreases-loop-left : goal.decreases-loop-left
decreases-loop-left l = l.left
