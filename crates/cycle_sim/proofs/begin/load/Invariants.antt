use Rattle.std.proofs.Common.{◌≤◌, length}
use Rattle.design_core.specs.Words.{valuation_of, AreWordsOf}
use Rattle.cycle_sim.proofs.Loading.{Loaded}
use Rattle.cycle_sim.proofs.begin.load.Given as goal

abbrev pub invariant-loop-left : goal.invariant-loop-left
invariant-loop-left l =
    record {
      most : l.left ≤ length l.samples;
      words : AreWordsOf l.design.signals.items l.words;
      value : Loaded l.design.inputs.items l.samples (valuation_of l.initial.words) l.words l.left;
    }

abbrev pub decreases-loop-left : goal.decreases-loop-left
decreases-loop-left l = l.left
