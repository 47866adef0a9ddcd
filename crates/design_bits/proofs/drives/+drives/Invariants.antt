use Rattle.std.proofs.Common.{take}
use Rattle.std.specs.List.{list_any}
use Rattle.design_core.specs.Drives.{statement_drives}
use Rattle.design_bits.specs.Masks.{Adds}
use Rattle.design_bits.specs.Rows.{item_drives}
use Rattle.design_bits.proofs.drives.+drives.Given as goal

abbrev pub invariant-add_statements-loop-statement : goal.invariant-add_statements-loop-statement
invariant-add_statements-loop-statement l = Adds l.initial.set l.set (λ s b. list_any (λ statement. statement_drives l.signals s b statement) (take l.statement-index l.statements))

abbrev pub invariant-add_items-loop-item : goal.invariant-add_items-loop-item
invariant-add_items-loop-item l = Adds l.initial.set l.set (λ s b. list_any (λ item. item_drives l.signals s b item) (take l.item-index l.items))
