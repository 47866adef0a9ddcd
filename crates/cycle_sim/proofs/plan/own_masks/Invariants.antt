use Rattle.std.proofs.Common.{map}
use Rattle.loc_base.specs.Bits.{width_of}
use Rattle.design_core.specs.Words.{valuation_of}
use Rattle.cycle_sim.specs.Masks.{AreMasksOf}
use Rattle.cycle_sim.proofs.Planning.{NarrowedSoFar}
use Rattle.cycle_sim.proofs.plan.own_masks.Given as goal

abbrev pub invariant-loop-k : goal.invariant-loop-k
invariant-loop-k l =
    record {
      widths : AreMasksOf (map width_of l.registers) l.own.items;
      bits : NarrowedSoFar (valuation_of l.registers) l.masks l.own.items l.k;
    }
