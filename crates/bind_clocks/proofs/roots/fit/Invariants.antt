use Rattle.std.proofs.Common.{◌≡◌, ◌≤◌, ◌-◌, ℕ, length, get_or, None}
use Rattle.bind_clocks.proofs.roots.fit.Given as goal

abbrev pub invariant-loop-table : goal.invariant-loop-table
invariant-loop-table l =
    ((s : ℕ) → get_or l.table.items s None ≡ get_or l.initial.table.items s None) × (length l.initial.table.items ≤ length l.table.items)

abbrev pub decreases-loop-table : goal.decreases-loop-table
decreases-loop-table l = l.signals - length l.table.items
