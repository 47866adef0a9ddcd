use Rattle.std.proofs.Common.{ℕ, ◌<◌, get_or}
use Rattle.form_values.specs.ModelValues.{IsPlace}
use Rattle.form_values.proofs.fits.are_all_places.Given as goal

abbrev pub invariant-loop-i : goal.invariant-loop-i
invariant-loop-i l = (k d : ℕ) → k < l.i → IsPlace l.u (get_or l.places k d)
