use Rattle.std.proofs.Common.{◌≡◌, length}
use Rattle.cycle_sim.specs.Simulated.{IsSimulable}
use Rattle.cycle_sim.specs.Holding.{IsHolding}
use Rattle.cycle_sim.specs.Replaying.{AreReady}
use Rattle.cycle_sim.proofs.Replayed.{StandsAt, MeetBefore}
use Rattle.cycle_sim.proofs.miss_search.replay_traces.Given as goal

abbrev pub invariant-loop-j : goal.invariant-loop-j
invariant-loop-j l =
    record {
      holding : IsHolding l.machine;
      design : l.machine.design.now ≡ l.initial.machine.design.now;
      order : l.machine.order.now ≡ l.initial.machine.order.now;
      length : length l.choice ≡ length l.initial.choice;
      ready : AreReady l.values l.freed l.choice;
      here : StandsAt l.traces l.values l.first l.j;
      before : IsSimulable l.initial.machine.design.now l.initial.machine.order.now
          → MeetBefore l.initial.machine.design.now l.traces l.values l.j;
    }
