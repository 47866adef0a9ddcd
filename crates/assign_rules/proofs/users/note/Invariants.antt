use Rattle.std.proofs.Common.{◌≡◌, ℕ, take, length}
use Rattle.std.specs.Prelude.{◌&&◌, ◌||◌}
use Rattle.std.specs.List.{list_any}
use Rattle.assign_rules.specs.UsedBy.{is_used_at, is_used_beside}
use Rattle.assign_rules.proofs.UserLaws.{is_at}
use Rattle.assign_rules.proofs.users.note.Given as goal

abbrev pub invariant-loop-signal : goal.invariant-loop-signal
invariant-loop-signal l =
    (length l.table.items ≡ length l.initial.table.items)
    × ((h k : ℕ) → is_used_at l.table.items h k ≡ (is_used_at l.initial.table.items h k || (is_used_beside l.more k && list_any (is_at l.homes l.own h) (take l.signal-index l.signal-items))))
