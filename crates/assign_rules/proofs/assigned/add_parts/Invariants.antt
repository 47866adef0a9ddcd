use Rattle.std.proofs.Common.{take}
use Rattle.std.specs.List.{list_any}
use Rattle.design_bits.specs.Masks.{Adds}
use Rattle.design_rules.specs.Assignments.{part_of}
use Rattle.assign_rules.proofs.assigned.add_parts.Given as goal

abbrev pub invariant-loop-part : goal.invariant-loop-part
invariant-loop-part l = Adds l.initial.set l.set (λ h b. list_any (λ y. part_of l.homes h y) (take l.part-index l.parts))
