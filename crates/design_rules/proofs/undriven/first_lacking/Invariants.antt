use Rattle.std.proofs.Common.{◌≡◌, ◌<◌, ℕ, false}
use Rattle.design_rules.specs.Used.{lacks_at}
use Rattle.design_rules.proofs.undriven.first_lacking.Given as goal

abbrev pub invariant-loop-place : goal.invariant-loop-place
invariant-loop-place l = (k : ℕ) → k < l.place → lacks_at l.signals l.used l.driven k ≡ false
