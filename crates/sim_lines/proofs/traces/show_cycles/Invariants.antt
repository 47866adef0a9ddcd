use Rattle.std.proofs.Common.{◌≡◌, List}
use Rattle.std.specs.Prelude.{true}
use Rattle.design_core.specs.Run.{IsRun}
use Rattle.design_core.specs.Valuation.{Valuation}
use Rattle.cycle_sim.specs.Simulator.{held_by}
use Rattle.sim_lines.specs.Lines.{no_place, no_values}
use Rattle.sim_lines.specs.Running.{design_of, IsRunner, IsSameRunner}
use Rattle.sim_lines.proofs.CycleLaws.{Stands}
use Rattle.sim_lines.proofs.EndLaws.{EndTo}
use Rattle.sim_lines.proofs.traces.show_cycles.Given as goal

abbrev pub invariant-loop-cycle : goal.invariant-loop-cycle
invariant-loop-cycle g l =
    record {
      runner : IsRunner l.runner;
      same : IsSameRunner l.initial.runner l.runner;
      tells : g.O.Sink.tells l.out ≡ g.O.Sink.tells l.initial.out;
      faults : g.O.Sink.faults l.out ≡ g.O.Sink.faults l.initial.out;
      end : EndTo (design_of l.initial.runner) l.trace l.cycle (held_by l.runner.sim).state l.miss;
      printed : g.O.Sink.tells l.initial.out ≡ true → (run : List Valuation) → IsRun (design_of l.initial.runner) l.trace no_place no_values run
          → Stands (design_of l.initial.runner) l.trace l.number run l.cycle (held_by l.runner.sim).state (g.O.Sink.written l.initial.out) (g.O.Sink.written l.out);
    }
