use Rattle.std.proofs.Common.{◌-◌, List, length}
use Rattle.vcd_reading.specs.Scopes.{Sought}
use Rattle.vcd_traces.specs.Samples.{Watches}
use Rattle.vcd_reading.specs.Changes.{Past}
use Rattle.vcd_traces.specs.Plan.{IsPlan}
use Rattle.vcd_traces.specs.Going.{Going}
use Rattle.vcd_traces.proofs.reader.Reading.read.Given as goal

abbrev pub invariant-loop-word : goal.invariant-loop-word
invariant-loop-word l =
    (sought : Sought) (w : Watches) (start : Past) → IsPlan start.header sought w l.plan → Going sought w l.plan l.text start l.from l.initial.self
    → Going sought w l.plan l.text start l.at l.self

abbrev pub decreases-loop-word : goal.decreases-loop-word
decreases-loop-word l = length l.text - l.at
