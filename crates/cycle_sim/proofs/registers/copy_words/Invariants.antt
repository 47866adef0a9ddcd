use Rattle.std.proofs.Common.{◌≡◌, map, drop}
use Rattle.loc_base.specs.Bits.{width_of}
use Rattle.design_core.specs.Words.{valuation_of}
use Rattle.plain_sim.specs.EvaluateCycle.{blended}
use Rattle.cycle_sim.specs.Masks.{is_among}
use Rattle.cycle_sim.proofs.registers.copy_words.Given as goal

abbrev pub invariant-loop-signal : goal.invariant-loop-signal
invariant-loop-signal l =
    record {
      widths : map width_of l.to ≡ map width_of l.initial.to;
      value : blended (λ s b. is_among (drop l.signal-index l.signals) s) (valuation_of l.from) (valuation_of l.to)
          ≡ blended (λ s b. is_among l.signals s) (valuation_of l.from) (valuation_of l.initial.to);
    }
