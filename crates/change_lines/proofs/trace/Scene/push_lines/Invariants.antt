use Rattle.std.proofs.Common.{List}
use Rattle.design_core.specs.Valuation.{Valuation}
use Rattle.cycle_sim.specs.Simulator.{IsSim, held_by}
use Rattle.value_runs.specs.Reruns.{AreEntries, IsRunOf}
use Rattle.change_lines.specs.Telling.{IsSameSim, told_in}
use Rattle.change_lines.proofs.RunSteps.{Stands}
use Rattle.change_lines.proofs.trace.Scene.push_lines.Given as goal

abbrev pub invariant-loop-t : goal.invariant-loop-t
invariant-loop-t l = record {
  sim : IsSim l.sim;
  same : IsSameSim (held_by l.fn.sim) (held_by l.sim);
  entries : AreEntries l.self.rerun l.entries;
  stands : (run : List Valuation) → IsRunOf l.self.rerun run
      → Stands (told_in l.self) l.self.number l.self.rerun.first l.self.rerun.trace.now run l.t (held_by l.sim).state l.fn.lines.items l.lines.items;
}
