use Rattle.std.proofs.Common.{◌≡◌, ◌||◌, ℕ, take}
use Rattle.std.specs.List.{list_any}
use Rattle.design_order.specs.Rows.{has}
use Rattle.design_order.specs.Sources.{entry_meets}
use Rattle.design_order.proofs.needs.add_drivers.Given as goal

abbrev pub invariant-loop-source : goal.invariant-loop-source
invariant-loop-source l = (j : ℕ) → has l.row.items j ≡ (has l.initial.row.items j || list_any (entry_meets l.mask j) (take l.source-index l.sources))
