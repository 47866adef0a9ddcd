use Rattle.std.proofs.Common.{ℕ, List, not}
use Rattle.design_core.specs.Drives.{block_assigns_later}
use Rattle.cycle_sim.specs.Masks.{AreMasksOf}
use Rattle.cycle_sim.proofs.Planning.{NarrowedSoFar}
use Rattle.cycle_sim.proofs.plan.now_masks.Given as goal

abbrev pub invariant-loop-k : goal.invariant-loop-k
invariant-loop-k l =
    record {
      widths : (widths : List ℕ) → AreMasksOf widths l.masks → AreMasksOf widths l.now.items;
      bits : NarrowedSoFar (λ s b. not (block_assigns_later s l.block)) l.masks l.now.items l.k;
    }
