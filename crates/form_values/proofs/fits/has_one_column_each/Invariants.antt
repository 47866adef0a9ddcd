use Rattle.form_values.specs.Places.{AreApart}
use Rattle.form_values.proofs.fits.has_one_column_each.Given as goal

abbrev pub invariant-loop-i : goal.invariant-loop-i
invariant-loop-i l = AreApart l.bits l.i
