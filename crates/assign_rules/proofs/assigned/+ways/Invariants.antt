use Rattle.std.proofs.Common.{take}
use Rattle.std.specs.List.{list_any}
use Rattle.design_core.specs.Drives.{some_set}
use Rattle.design_bits.specs.Masks.{Adds}
use Rattle.design_bits.specs.Rows.{item_passes}
use Rattle.assign_rules.specs.Ways.{by_way}
use Rattle.assign_rules.proofs.assigned.+ways.Given as goal

abbrev pub invariant-add_statements-loop-statement : goal.invariant-add_statements-loop-statement
invariant-add_statements-loop-statement l = Adds l.initial.set l.set (λ h b. list_any (λ y. some_set (by_way l.way l.homes h) y) (take l.statement-index l.statements))

abbrev pub invariant-add_items-loop-item : goal.invariant-add_items-loop-item
invariant-add_items-loop-item l = Adds l.initial.set l.set (λ h b. list_any (λ y. item_passes (by_way l.way l.homes h) y) (take l.item-index l.items))
