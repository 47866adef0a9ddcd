use Rattle.std.proofs.Common.{IsTrue, ℕ}
use Rattle.std.specs.List.{list_all}
use Rattle.design_core.specs.Drives.{some_set}
use Rattle.design_core.specs.WellFormed.{statement_fits}
use Rattle.plain_values.specs.Evaluate.{item_fits}
use Rattle.cycle_sim.specs.Collected.{set_drives, item_drives}
use Rattle.cycle_sim.proofs.Collecting.{AddsSoFar}
use Rattle.cycle_sim.proofs.collect.+collect.Given as goal

abbrev pub invariant-add_statements-loop-k : goal.invariant-add_statements-loop-k
invariant-add_statements-loop-k l =
    IsTrue (list_all (statement_fits l.design.signals.items l.design.places.items) l.statements)
    → AddsSoFar l.design.signals.items l.initial.row.items l.row.items
    (λ s b. some_set (set_drives l.design.signals.items l.only_now s b)) l.statements l.k

abbrev pub invariant-add_items-loop-k : goal.invariant-add_items-loop-k
invariant-add_items-loop-k l =
    (width : ℕ) → IsTrue (list_all (item_fits l.design.signals.items l.design.places.items width) l.items)
    → AddsSoFar l.design.signals.items l.initial.row.items l.row.items
    (λ s b. item_drives l.design.signals.items l.only_now s b) l.items l.k
