use Rattle.std.proofs.Common.{take, length}
use Rattle.std.specs.List.{list_any, list_all}
use Rattle.design_core.specs.Reads.{assigns_either_way}
use Rattle.design_bits.specs.Listed.{Lists}
use Rattle.design_bits.specs.Paths.{item_either_way}
use Rattle.design_bits.specs.Waits.{IsKept, IsInList}
use Rattle.design_bits.proofs.paths.+paths.Given as goal

abbrev pub invariant-list_block-loop-statement : goal.invariant-list_block-loop-statement
invariant-list_block-loop-statement l =
    let S = l.design.signals.items in
    IsKept (length S) l.initial.walk l.walk × Lists (length S) l.all.items (λ s b. list_any (λ y. assigns_either_way S s b y) (take l.statement-index l.statements))

abbrev pub invariant-list_items-loop-item : goal.invariant-list_items-loop-item
invariant-list_items-loop-item l =
    let S = l.design.signals.items in
    IsInList (length S) l.initial.walk l.walk l.initial.shared l.shared l.item-index (λ s b. list_all (λ y. item_either_way S s b y) (take l.item-index l.items))
