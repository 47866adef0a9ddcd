use Rattle.std.proofs.Common.{[], take}
use Rattle.word_net.specs.Fits.{AllFit}
use Rattle.net_checks.proofs.fits.all_fit.Given as goal

abbrev pub invariant-loop-i : goal.invariant-loop-i
invariant-loop-i l = AllFit [] (take l.i l.nodes)
