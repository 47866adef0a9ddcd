use Rattle.std.proofs.Common.{◌≡◌, ℕ, [], take, vec_len, length}
use Rattle.design_order.specs.Rows.{row, times}
use Rattle.design_order.proofs.users.users_of.Given as goal

abbrev pub invariant-loop : goal.invariant-loop
invariant-loop l = (vec_len l.users ≡ l.counter) × ((j : ℕ) → row l.users.items j ≡ [])

abbrev pub invariant-loop-i : goal.invariant-loop-i
invariant-loop-i l = (vec_len l.users ≡ length l.needs) × ((i j : ℕ) → times i (row l.users.items j) ≡ times j (row (take l.i l.needs) i))
