use Rattle.std.proofs.Common.{◌≡◌, map, drop}
use Rattle.loc_base.specs.Bits.{width_of}
use Rattle.design_core.specs.Words.{valuation_of}
use Rattle.plain_sim.specs.EvaluateCycle.{blended}
use Rattle.cycle_sim.specs.Masks.{covers}
use Rattle.cycle_sim.proofs.mask.copy_bits.Given as goal

abbrev pub invariant-loop-k : goal.invariant-loop-k
invariant-loop-k l =
    record {
      widths : map width_of l.to ≡ map width_of l.initial.to;
      value : blended (covers (drop l.k l.masks)) (valuation_of l.from) (valuation_of l.to)
          ≡ blended (covers l.masks) (valuation_of l.from) (valuation_of l.initial.to);
    }
