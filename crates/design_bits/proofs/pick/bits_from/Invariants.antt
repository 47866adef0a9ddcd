use Rattle.std.proofs.Common.{◌≡◌, ◌<◌, ℕ, take}
use Rattle.loc_base.specs.Bits.{width_of, value_of}
use Rattle.design_core.specs.Operator.{integer_of}
use Rattle.design_core.specs.Pick.{has_bit}
use Rattle.design_core.specs.Valuation.{bit}
use Rattle.design_bits.proofs.pick.bits_from.Given as goal

abbrev pub invariant-loop-offset : goal.invariant-loop-offset
invariant-loop-offset l =
    (b : ℕ) → b < 128 → bit l.mask b ≡ has_bit l.signals l.signal (integer_of l.signed (width_of l.at) (value_of l.at)) (take l.offset-index l.offsets) b
