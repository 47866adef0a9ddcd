use Rattle.std.proofs.Common.{ℕ, List, take}
use Rattle.cycle_sim.specs.Masks.{AreMasksOf, IsSplit}
use Rattle.cycle_sim.proofs.registers.Registers.new.Given as goal

abbrev pub invariant-loop-k : goal.invariant-loop-k
invariant-loop-k l =
    (widths : List ℕ) → AreMasksOf widths l.masks.items → IsSplit widths (take l.k l.masks.items) l.whole.items l.parts.items
