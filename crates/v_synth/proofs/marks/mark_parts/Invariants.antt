use Rattle.std.proofs.Common.{take}
use Rattle.std.specs.List.{list_any}
use Rattle.design_core.specs.Drives.{part_names}
use Rattle.v_synth.specs.Rows.{Marked}
use Rattle.v_synth.proofs.marks.mark_parts.Given as goal

abbrev pub invariant-loop-part : goal.invariant-loop-part
invariant-loop-part l = Marked l.mark l.initial.marks l.marks (λ s. list_any (part_names s) (take l.part-index l.parts))
