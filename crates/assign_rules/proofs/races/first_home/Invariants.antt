use Rattle.std.proofs.Common.{◌≡◌, ◌<◌, ℕ, false}
use Rattle.assign_rules.specs.Ways.{is_home}
use Rattle.assign_rules.proofs.races.first_home.Given as goal

abbrev pub invariant-loop-home : goal.invariant-loop-home
invariant-loop-home l = (k : ℕ) → k < l.home → is_home l.set k ≡ false
