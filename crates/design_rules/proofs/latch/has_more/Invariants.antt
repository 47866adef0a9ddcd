use Rattle.std.proofs.Common.{◌≡◌, take, false, slice_index}
use Rattle.std.specs.List.{list_any}
use Rattle.design_bits.specs.Masks.{exceeds}
use Rattle.design_rules.proofs.latch.has_more.Given as goal

abbrev pub invariant-loop-signal : goal.invariant-loop-signal
invariant-loop-signal l = list_any (λ s. exceeds (slice_index l.own s) (slice_index l.sure s)) (take l.signal-index l.signal-items) ≡ false
