use Rattle.form_values.proofs.FitSteps.{ArePlacesTo}
use Rattle.form_values.proofs.fits.are_places.Given as goal

abbrev pub invariant-loop-i : goal.invariant-loop-i
invariant-loop-i l = ArePlacesTo l.u l.groups l.i
