use Rattle.std.proofs.Common.{◌≡◌, List}
use Rattle.design_core.specs.Explained.{cycles_before}
use Rattle.cycle_sim.specs.Simulator.{IsSim, held_by}
use Rattle.change_lines.specs.Lines.{AreChangeLines, ChangeLine}
use Rattle.change_lines.specs.Telling.{IsSameSim, told_of}
use Rattle.change_lines.proofs.SetSteps.{StandsAt}
use Rattle.change_lines.proofs.set.lines_of.Given as goal

abbrev pub invariant-loop-k : goal.invariant-loop-k
invariant-loop-k l = record {
  sim : IsSim l.sim;
  same : IsSameSim (held_by l.fn.sim) (held_by l.sim);
  first : l.first ≡ cycles_before l.listed.traces.now l.k;
  stands : (lines : List ChangeLine) → AreChangeLines (told_of l.listed l.set) 1 0 l.listed.traces.now lines
      → StandsAt (told_of l.listed l.set) l.listed.traces.now lines l.k l.first l.lines.items;
}
