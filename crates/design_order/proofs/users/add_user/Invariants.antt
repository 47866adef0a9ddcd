use Rattle.std.proofs.Common.{◌≡◌, ◌+◌, ◌==◌, ℕ, take, vec_len}
use Rattle.std.specs.Prelude.{if◌then◌else◌}
use Rattle.design_order.specs.Rows.{row, times}
use Rattle.design_order.proofs.users.add_user.Given as goal

abbrev pub invariant-loop-number : goal.invariant-loop-number
invariant-loop-number l =
    (vec_len l.users ≡ vec_len l.initial.users)
    × ((i j : ℕ) → times i (row l.users.items j) ≡ times i (row l.initial.users.items j) + (if l.user == i then times j (take l.number-index l.needed) else 0))
