use Rattle.std.proofs.Common.{take, ◌&&◌, not}
use Rattle.std.specs.List.{list_any}
use Rattle.design_bits.specs.Rows.{label_reads}
use Rattle.design_bits.specs.Masks.{Adds, has}
use Rattle.design_bits.proofs.mentions.add_labels_reads.Given as goal

abbrev pub invariant-loop-label : goal.invariant-loop-label
invariant-loop-label l = Adds l.initial.set l.set (λ s b. list_any (λ y. label_reads l.signals s b y) (take l.label-index l.labels) && not (has l.sure s b))
