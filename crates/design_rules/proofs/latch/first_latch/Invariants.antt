use Rattle.std.proofs.Common.{◌≡◌, ◌<◌, ℕ, length}
use Rattle.design_rules.specs.Latches.{IsLatch}
use Rattle.design_rules.proofs.latch.first_latch.Given as goal

abbrev pub invariant-loop-number : goal.invariant-loop-number
invariant-loop-number l =
    (length l.own ≡ length l.design.signals.items) × (length l.sure ≡ length l.design.signals.items) × ((k : ℕ) → k < l.number → ¬ IsLatch l.design k)
