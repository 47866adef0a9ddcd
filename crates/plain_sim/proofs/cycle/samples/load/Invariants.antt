use Rattle.std.proofs.Common.{◌≡◌, ◌≤◌, length, drop}
use Rattle.design_core.specs.Words.{valuation_of, AreWordsOf}
use Rattle.design_core.specs.Cycle.{sampled}
use Rattle.plain_sim.proofs.cycle.samples.load.Given as goal

abbrev pub invariant-loop-left : goal.invariant-loop-left
invariant-loop-left l =
    record {
      most : l.left ≤ length l.samples;
      words : AreWordsOf l.design.signals.items l.words;
      value : valuation_of l.words ≡ sampled (drop l.left l.design.inputs.items) (drop l.left l.samples);
    }

abbrev pub decreases-loop-left : goal.decreases-loop-left
decreases-loop-left l = l.left
