use Rattle.std.proofs.Common.{◌≡◌, length}
use Rattle.assign_rules.specs.UsedBy.{AreUsers}
use Rattle.assign_rules.proofs.users.users_of.Given as goal

abbrev pub invariant-loop-number : goal.invariant-loop-number
invariant-loop-number l =
    (length l.own ≡ length l.design.signals.items) × (length l.table.items ≡ l.homes.count) × AreUsers l.design l.homes.list.now l.number l.table.items
