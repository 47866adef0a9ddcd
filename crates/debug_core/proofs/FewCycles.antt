-- The cycles of some traces of a list are no more than those of all.
use Rattle.std.proofs.Common.{ℕ, zero, suc, ◌+◌, ◌≤◌, List, [], ◌∷◌, take, arith}
use Rattle.design_core.specs.declared.trace.Trace.{Trace}
use Rattle.unroller.specs.Unrolls.{cycles_of}
use Rattle.unroller.proofs.FitSteps.{cycles_of-all, cycles_of-take}

pub cycles_of-some : (traces : List Trace) (i : ℕ) → cycles_of (take i traces) ≤ cycles_of traces
cycles_of-some [] i = omega (arith, cycles_of-all [] i (omega arith))
cycles_of-some (trace ∷ traces) zero = omega arith
cycles_of-some (trace ∷ traces) (suc i) = omega (arith, cycles_of-some traces i)

pub ruleset few_cycles = (cycles_of-take, cycles_of-all, cycles_of-some)
