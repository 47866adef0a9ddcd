use Rattle.std.proofs.Common.{take}
use Rattle.std.specs.List.{list_any}
use Rattle.design_bits.specs.Full.{Marks, labels_take}
use Rattle.design_bits.proofs.full.mark_items.Given as goal

abbrev pub invariant-loop-item : goal.invariant-loop-item
invariant-loop-item l = Marks l.initial.seen l.seen (λ n. list_any (λ y. labels_take l.signals l.subject n y) (take l.item-index l.items))
