use Rattle.std.proofs.Common.{take, ◌&&◌, not}
use Rattle.std.specs.List.{list_any}
use Rattle.design_core.specs.Reads.{reads}
use Rattle.design_bits.specs.Masks.{Adds, has}
use Rattle.design_bits.proofs.reads.+reads.Given as goal

abbrev pub invariant-add_all_reads-loop-part : goal.invariant-add_all_reads-loop-part
invariant-add_all_reads-loop-part l =
    Adds l.initial.set l.set (λ s b. list_any (λ part. reads l.signals s b part) (take l.part-index l.parts) && not (has l.sure s b))
