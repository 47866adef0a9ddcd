use Rattle.std.proofs.Common.{length}
use Rattle.design_fits.proofs.trace.+expected_fit.Given as goal

abbrev pub decreases-expected_fit : goal.decreases-expected_fit
decreases-expected_fit l = length l.expected.now
