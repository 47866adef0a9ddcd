use Rattle.form_values.proofs.FitSteps.{IsAbsentTo}
use Rattle.form_values.proofs.fits.is_absent.Given as goal

abbrev pub invariant-loop-i : goal.invariant-loop-i
invariant-loop-i l = IsAbsentTo l.bits l.from l.i l.place l.bit
