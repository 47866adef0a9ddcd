use Rattle.std.proofs.Common.{take}
use Rattle.std.specs.List.{list_any}
use Rattle.design_bits.specs.Masks.{Adds}
use Rattle.design_rules.specs.Assignments.{driver_sets}
use Rattle.assign_rules.specs.Ways.{by_way}
use Rattle.assign_rules.proofs.assigned.add_drivers.Given as goal

abbrev pub invariant-loop-driver : goal.invariant-loop-driver
invariant-loop-driver l = Adds l.initial.set l.set (λ h b. list_any (λ y. driver_sets (by_way l.way l.homes h) y) (take l.driver-index l.drivers))
