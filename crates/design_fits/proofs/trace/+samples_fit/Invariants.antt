use Rattle.std.proofs.Common.{length}
use Rattle.design_fits.proofs.trace.+samples_fit.Given as goal

abbrev pub decreases-samples_fit : goal.decreases-samples_fit
decreases-samples_fit l = length l.samples.now
