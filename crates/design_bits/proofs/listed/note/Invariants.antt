use Rattle.std.proofs.Common.{take, ◌≡◌}
use Rattle.design_bits.specs.Masks.{Adds}
use Rattle.design_bits.specs.Listed.{lists, undone}
use Rattle.design_bits.proofs.listed.note.Given as goal

abbrev pub invariant-loop-entry : goal.invariant-loop-entry
invariant-loop-entry l =
    Adds l.initial.table l.table (λ s b. lists (take l.entry-index l.some) s b) × (undone l.before.items l.table ≡ undone l.initial.before.items l.initial.table)
