use Rattle.std.proofs.Common.{◌≡◌, ℕ, ◌+◌, ◌<◌, take, length, get_or}
use Rattle.design_core.specs.declared.trace.Trace.{Trace}
use Rattle.unroller.specs.Unrolls.{cycles_of, IsTraceOf}
use Rattle.unroller.proofs.fits.are_traces.Given as goal

abbrev pub invariant-loop-i : goal.invariant-loop-i
invariant-loop-i l = record {
  few : l.left + cycles_of (take l.i l.traces) ≡ 4294967295;
  each : (k : ℕ) (d : Trace) → k < l.i → IsTraceOf (length l.circuit.outputs) (get_or l.traces k d);
}
