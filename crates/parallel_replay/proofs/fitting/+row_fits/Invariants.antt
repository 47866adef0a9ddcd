use Rattle.std.proofs.Common.{length}
use Rattle.parallel_replay.proofs.fitting.+row_fits.Given as goal

abbrev pub decreases-row_fits : goal.decreases-row_fits
decreases-row_fits l = length l.places.now
