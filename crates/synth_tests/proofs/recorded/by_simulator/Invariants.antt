use Rattle.std.proofs.Common.{◌≡◌}
use Rattle.cycle_sim.specs.Simulator.{IsSim, held_by}
use Rattle.synth_tests.proofs.recorded.by_simulator.Given as goal

abbrev pub invariant-loop-cycle : goal.invariant-loop-cycle
invariant-loop-cycle l =
    record {
      sim : IsSim l.sim;
      design : (held_by l.sim).design ≡ l.design;
    }
