use Rattle.std.proofs.Common.{take}
use Rattle.design_bits.specs.Masks.{Adds}
use Rattle.design_bits.specs.Listed.{lists}
use Rattle.design_bits.proofs.listed.add_listed.Given as goal

abbrev pub invariant-loop-entry : goal.invariant-loop-entry
invariant-loop-entry l = Adds l.initial.set l.set (λ s b. lists (take l.entry-index l.some) s b)
