use Rattle.std.proofs.Common.{take, length, ◌&&◌}
use Rattle.design_bits.specs.Masks.{has}
use Rattle.design_bits.specs.Listed.{Lists, lists}
use Rattle.design_bits.proofs.listed.met.Given as goal

abbrev pub invariant-loop-entry : goal.invariant-loop-entry
invariant-loop-entry l = Lists (length l.set) l.list.items (λ s b. has l.set s b && lists (take l.entry-index l.some) s b)
