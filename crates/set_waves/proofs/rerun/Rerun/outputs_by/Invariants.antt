use Rattle.std.proofs.Common.{◌≡◌, ◌*◌, List, length, map}
use Rattle.design_core.specs.Explained.{is_one_of}
use Rattle.design_core.specs.Valuation.{Valuation}
use Rattle.cycle_sim.specs.Replaying.{choices_from}
use Rattle.cycle_sim.specs.Simulator.{IsSim, held_by}
use Rattle.vcd_waves.specs.Lines.{expected}
use Rattle.set_waves.specs.Making.{AreEntries, IsRunOf, IsSameSim}
use Rattle.set_waves.proofs.RunOutputs.{Stands}
use Rattle.set_waves.proofs.rerun.Rerun.outputs_by.Given as goal

abbrev pub invariant-loop-t : goal.invariant-loop-t
invariant-loop-t l = record {
  sim : IsSim l.sim;
  same : IsSameSim (held_by l.fn.sim) (held_by l.sim);
  entries : AreEntries l.self l.entries;
  count : length l.outputs.items ≡ l.t * length l.self.design.now.outputs.items;
  stands : (run : List Valuation) → IsRunOf l.self run
      → Stands l.self.design.now l.self.trace.now (is_one_of l.self.values.now.places.items)
      (choices_from l.self.values.now l.self.first) run l.t (held_by l.sim).state (map expected l.outputs.items);
}
