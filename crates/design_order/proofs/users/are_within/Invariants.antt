use Rattle.std.proofs.Common.{◌<◌, ℕ, All, length}
use Rattle.design_order.specs.Rows.{row}
use Rattle.design_order.proofs.users.are_within.Given as goal

abbrev pub invariant-loop-i : goal.invariant-loop-i
invariant-loop-i l = (k : ℕ) → k < l.i → All (λ x. x < length l.needs) (row l.needs k)
