use Rattle.std.proofs.Common.{◌≡◌, take}
use Rattle.form_values.specs.ModelValues.{width_in}
use Rattle.form_values.proofs.fits.width_in.Given as goal

abbrev pub invariant-loop-i : goal.invariant-loop-i
invariant-loop-i l = l.width ≡ width_in (take l.i l.bits) l.place
