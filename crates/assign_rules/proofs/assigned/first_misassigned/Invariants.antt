use Rattle.std.proofs.Common.{◌≡◌, ◌<◌, ℕ, false}
use Rattle.design_rules.specs.Assignments.{is_misassigned}
use Rattle.assign_rules.proofs.assigned.first_misassigned.Given as goal

abbrev pub invariant-loop-home : goal.invariant-loop-home
invariant-loop-home l = (k : ℕ) → k < l.home → is_misassigned l.design l.homes k ≡ false
