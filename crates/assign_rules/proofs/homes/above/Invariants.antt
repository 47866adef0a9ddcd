use Rattle.std.proofs.Common.{◌<◌, ◌≤◌, take}
use Rattle.std.specs.Prelude.{All}
use Rattle.assign_rules.proofs.homes.above.Given as goal

abbrev pub invariant-loop-home : goal.invariant-loop-home
invariant-loop-home l = All (λ h. h < l.count) (take l.home-index l.list) × (l.least ≤ l.count)
