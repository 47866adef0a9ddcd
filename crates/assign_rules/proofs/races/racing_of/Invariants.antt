use Rattle.std.proofs.Common.{◌≡◌, length}
use Rattle.assign_rules.specs.Racing.{AreRacing}
use Rattle.assign_rules.proofs.races.racing_of.Given as goal

abbrev pub invariant-loop-number : goal.invariant-loop-number
invariant-loop-number l =
    (length l.racing ≡ l.homes.count) × (length l.own ≡ l.homes.count) × AreRacing l.design l.homes.list.now l.table l.number l.racing
