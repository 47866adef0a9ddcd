use Rattle.std.proofs.Common.{◌≡◌, ◌≤◌, ◌-◌, ℕ, length, Some}
use Rattle.std.specs.Prelude.{slice_get}
use Rattle.vcd_traces.specs.declared.running.Running.{Running}
use Rattle.vcd_traces.specs.Running.{first_running}
use Rattle.vcd_traces.proofs.reader.Reading.new.Given as goal

abbrev pub invariant-loop-running : goal.invariant-loop-running
invariant-loop-running l = record {
  few : length l.running.items ≤ l.cells;
  same : (k : ℕ) (r : Running) → slice_get l.running.items k ≡ Some r → r ≡ first_running;
}

abbrev pub decreases-loop-running : goal.decreases-loop-running
decreases-loop-running l = l.cells - length l.running.items
