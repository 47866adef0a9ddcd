use Rattle.std.proofs.Common.{◌≡◌, ◌≤◌, length, drop}
use Rattle.design_core.specs.Words.{valuation_of, AreWordsOf}
use Rattle.design_core.specs.Cycle.{sampled}
use Rattle.plain_list.proofs.samples.load_samples.Given as goal

abbrev pub invariant-loop-left : goal.invariant-loop-left
invariant-loop-left l =
    (l.left ≤ length l.samples) × AreWordsOf l.signals l.words × (valuation_of l.words ≡ sampled (drop l.left l.inputs) (drop l.left l.samples))

abbrev pub decreases-loop-left : goal.decreases-loop-left
decreases-loop-left l = l.left
