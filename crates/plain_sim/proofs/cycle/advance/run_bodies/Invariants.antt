use Rattle.std.proofs.Common.{◌≡◌, drop}
use Rattle.design_core.specs.Words.{valuation_of, AreWordsOf, choice_of}
use Rattle.design_core.specs.Steps.{with_bodies}
use Rattle.plain_sim.proofs.cycle.advance.run_bodies.Given as goal

abbrev pub invariant-loop-i : goal.invariant-loop-i
invariant-loop-i l =
    let choice = choice_of l.freed l.chosen in
    record {
      words : AreWordsOf l.design.signals.items l.next;
      value : with_bodies l.design choice (valuation_of l.now) (drop l.i l.design.clocked.items) (valuation_of l.next)
          ≡ with_bodies l.design choice (valuation_of l.now) l.design.clocked.items (valuation_of l.initial.next);
    }
