use Rattle.std.proofs.Common.{ℕ, ◌<◌}
use Rattle.unroller.specs.Reads.{HasFreeBit}
use Rattle.form_values.proofs.fits.is_place.Given as goal

abbrev pub invariant-loop-bit : goal.invariant-loop-bit
invariant-loop-bit l = (b : ℕ) → b < l.bit → HasFreeBit l.u l.place b
