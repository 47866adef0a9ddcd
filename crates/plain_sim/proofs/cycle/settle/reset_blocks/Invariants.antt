use Rattle.std.proofs.Common.{◌≡◌, drop}
use Rattle.design_core.specs.Words.{valuation_of, AreWordsOf, choice_of}
use Rattle.design_core.specs.Steps.{with_resets}
use Rattle.plain_sim.proofs.cycle.settle.reset_blocks.Given as goal

abbrev pub invariant-loop-i : goal.invariant-loop-i
invariant-loop-i l =
    let choice = choice_of l.freed l.chosen in
    record {
      words : AreWordsOf l.design.signals.items l.now;
      value : with_resets l.design choice (valuation_of l.before) (drop l.i l.design.clocked.items) (valuation_of l.now)
          ≡ with_resets l.design choice (valuation_of l.before) l.design.clocked.items (valuation_of l.initial.now);
    }
