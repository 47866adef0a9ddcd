use Rattle.std.proofs.Common.{◌≡◌}
use Rattle.cycle_sim.specs.Simulated.{IsSimulable}
use Rattle.cycle_sim.specs.Simulator.{IsSim, held_by}
use Rattle.cycle_sim.specs.Misses.{AllMeet}
use Rattle.parallel_replay.proofs.set_search.first_to_miss.Given as goal

abbrev pub invariant-loop-k : goal.invariant-loop-k
invariant-loop-k l =
    record {
      sim : IsSim l.sim;
      design : (held_by l.sim).design ≡ l.trial.design.now;
      order : (held_by l.sim).order ≡ l.trial.order.now;
      before : IsSimulable l.trial.design.now l.trial.order.now → AllMeet l.trial.design.now l.trial.traces.now l.sets l.fn.piece.from l.k;
    }
