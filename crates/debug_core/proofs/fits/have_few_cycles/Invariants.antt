use Rattle.std.proofs.Common.{◌≡◌, ◌+◌, take}
use Rattle.unroller.specs.Unrolls.{cycles_of}
use Rattle.debug_core.proofs.fits.have_few_cycles.Given as goal

abbrev pub invariant-loop-i : goal.invariant-loop-i
invariant-loop-i l = l.left + cycles_of (take l.i l.traces) ≡ 4294967295
