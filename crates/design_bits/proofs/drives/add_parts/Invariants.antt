use Rattle.std.proofs.Common.{take}
use Rattle.std.specs.List.{list_any}
use Rattle.design_core.specs.Drives.{part_drives}
use Rattle.design_bits.specs.Masks.{Adds}
use Rattle.design_bits.proofs.drives.add_parts.Given as goal

abbrev pub invariant-loop-part : goal.invariant-loop-part
invariant-loop-part l = Adds l.initial.set l.set (λ s b. list_any (λ part. part_drives l.signals s b part) (take l.part-index l.parts))
