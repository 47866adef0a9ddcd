use Rattle.std.proofs.Common.{◌≡◌, ◌≤◌, ◌*◌}
use Rattle.design_core.specs.Explained.{cycles_before}
use Rattle.parallel_replay.proofs.fitting.all_cycles.Given as goal

abbrev pub invariant-loop-j : goal.invariant-loop-j
invariant-loop-j l =
    record {
      sum : l.cycles ≡ cycles_before l.traces l.j;
      most : l.cycles ≤ l.j * 4294967295;
    }
