use Rattle.design_core.specs.Words.{valuation_of, AreWordsOf}
use Rattle.cycle_sim.proofs.Planning.{ClearedSoFar}
use Rattle.cycle_sim.proofs.plan.clear_driven.Given as goal

abbrev pub invariant-loop-i : goal.invariant-loop-i
invariant-loop-i l =
    record {
      words : AreWordsOf l.design.signals.items l.words;
      bits : ClearedSoFar l.design (valuation_of l.initial.words) (valuation_of l.words) l.i;
    }
