use Rattle.std.proofs.Common.{◌≡◌, List}
use Rattle.std.specs.Prelude.{true}
use Rattle.sim_lines.specs.Lines.{AreLines, Line}
use Rattle.sim_lines.specs.Running.{design_of, IsRunner}
use Rattle.sim_lines.proofs.RightLaws.{RightTo}
use Rattle.sim_lines.proofs.TraceLaws.{Printed}
use Rattle.sim_lines.proofs.traces.show_traces.Given as goal

abbrev pub invariant-loop-j : goal.invariant-loop-j
invariant-loop-j g l =
    record {
      runner : IsRunner l.runner;
      design : design_of l.runner ≡ l.simulation.design.now;
      tells : g.O.Sink.tells l.out ≡ g.O.Sink.tells l.initial.out;
      faults : g.O.Sink.faults l.out ≡ g.O.Sink.faults l.initial.out;
      printed : g.O.Sink.tells l.initial.out ≡ true → (lines : List Line) → AreLines l.simulation.design.now 1 l.traces lines
          → Printed l.simulation.design.now l.traces lines l.j (g.O.Sink.written l.initial.out) (g.O.Sink.written l.out);
      right : (lines : List Line) → AreLines l.simulation.design.now 1 l.traces lines → RightTo l.simulation.design.now l.traces lines l.j l.right;
    }
