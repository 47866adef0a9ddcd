use Rattle.std.proofs.Common.{◌≡◌, List, length}
use Rattle.design_core.specs.Valuation.{Valuation}
use Rattle.design_core.specs.Explained.{is_one_of}
use Rattle.cycle_sim.specs.Simulated.{IsSimulable}
use Rattle.cycle_sim.specs.Holding.{IsHolding, simulated_of}
use Rattle.cycle_sim.specs.Replaying.{AreReady, choices_from}
use Rattle.cycle_sim.proofs.Running.{RunTo}
use Rattle.cycle_sim.proofs.miss_search.replay_trace.Given as goal

abbrev pub invariant-loop-t : goal.invariant-loop-t
invariant-loop-t l =
    record {
      holding : IsHolding l.machine;
      design : l.machine.design.now ≡ l.initial.machine.design.now;
      order : l.machine.order.now ≡ l.initial.machine.order.now;
      length : length l.choice ≡ length l.initial.choice;
      ready : AreReady l.values l.freed l.choice;
      run : IsSimulable l.initial.machine.design.now l.initial.machine.order.now
          → (front : List Valuation) × RunTo l.initial.machine.design.now l.trace (is_one_of l.values.places.items)
          (choices_from l.values l.first) l.t (simulated_of l.machine).state front;
    }
