use Rattle.std.proofs.Common.{take, ◌&&◌, not}
use Rattle.std.specs.List.{list_any}
use Rattle.design_core.specs.Reads.{part_reads}
use Rattle.design_bits.specs.Masks.{Adds, has}
use Rattle.design_bits.proofs.mentions.add_parts_reads.Given as goal

abbrev pub invariant-loop-part : goal.invariant-loop-part
invariant-loop-part l = Adds l.initial.set l.set (λ s b. list_any (λ y. part_reads l.signals s b y) (take l.part-index l.parts) && not (has l.sure s b))
