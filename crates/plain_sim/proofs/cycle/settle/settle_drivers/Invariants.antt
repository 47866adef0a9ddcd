use Rattle.std.proofs.Common.{◌≡◌, drop}
use Rattle.design_core.specs.Words.{valuation_of, AreWordsOf, choice_of}
use Rattle.design_core.specs.Steps.{with_drivers}
use Rattle.plain_sim.proofs.cycle.settle.settle_drivers.Given as goal

abbrev pub invariant-loop-i : goal.invariant-loop-i
invariant-loop-i l =
    let choice = choice_of l.freed l.chosen in
    record {
      words : AreWordsOf l.design.signals.items l.now;
      value : with_drivers l.design choice (drop l.i-index l.order) (valuation_of l.now) ≡ with_drivers l.design choice l.order (valuation_of l.initial.now);
    }
