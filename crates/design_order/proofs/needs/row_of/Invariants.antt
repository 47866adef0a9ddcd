use Rattle.std.proofs.Common.{◌≡◌, ℕ, take}
use Rattle.std.specs.List.{list_any}
use Rattle.design_order.specs.Rows.{has}
use Rattle.design_order.specs.Sources.{signal_meets}
use Rattle.design_order.proofs.needs.row_of.Given as goal

abbrev pub invariant-loop-signal : goal.invariant-loop-signal
invariant-loop-signal l = (j : ℕ) → has l.row.items j ≡ list_any (signal_meets l.sources l.reads j) (take l.signal-index l.signal-items)
