use Rattle.std.proofs.Common.{◌≡◌, ℕ, false, get_or, take}
use Rattle.unroller.specs.Unrolls.{is_grouped}
use Rattle.unroller.proofs.groups.grouped.Given as goal

abbrev pub invariant-loop-i : goal.invariant-loop-i
invariant-loop-i l = (p : ℕ) → get_or l.table p false ≡ is_grouped (take l.i l.groups) p
