use Rattle.std.proofs.Common.{◌-◌, ◌&&◌, nat_lt}
use Rattle.design_core.specs.Drives.{is_among}
use Rattle.design_core.specs.Valuation.{width_at}
use Rattle.design_bits.specs.Masks.{Adds}
use Rattle.design_bits.proofs.region.add_whole.Given as goal

abbrev pub invariant-loop-signal : goal.invariant-loop-signal
invariant-loop-signal l = Adds l.initial.set l.set (λ s b. is_among l.first (l.signal - l.first) s && nat_lt b (width_at l.signals s))
