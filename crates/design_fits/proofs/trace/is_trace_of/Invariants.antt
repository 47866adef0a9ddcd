use Rattle.std.proofs.Common.{ℕ, ◌<◌}
use Rattle.design_fits.specs.Fits.{CycleFits}
use Rattle.design_fits.proofs.trace.is_trace_of.Given as goal

abbrev pub invariant-loop-t : goal.invariant-loop-t
invariant-loop-t l = (t : ℕ) → t < l.t → CycleFits l.design l.trace t
