use Rattle.std.proofs.Common.{◌-◌, ◌&&◌, not}
use Rattle.design_core.specs.Drives.{is_among}
use Rattle.design_core.specs.Valuation.{bit}
use Rattle.design_bits.specs.Masks.{Adds, has}
use Rattle.design_bits.proofs.region.add_region.Given as goal

abbrev pub invariant-loop-signal : goal.invariant-loop-signal
invariant-loop-signal l =
    Adds l.initial.set l.set (λ s b. (is_among l.region.first (l.signal - l.region.first) s && bit l.region.mask b) && not (has l.sure s b))
