use Rattle.std.proofs.Common.{◌≤◌, ◌-◌, List, length}
use Rattle.vcd_reading.specs.Scopes.{Sought}
use Rattle.vcd_reading.specs.HeaderView.{header_of}
use Rattle.vcd_reading.specs.Outcomes.{ReadsOn, begun}
use Rattle.vcd_reading.proofs.header_reader.read_header.Given as goal

abbrev pub invariant-loop-header : goal.invariant-loop-header
invariant-loop-header l = record {
  reads : (sought : Sought) → ReadsOn sought l.text (begun (header_of l.header)) l.stop;
  within : l.stop ≤ length l.text;
}

abbrev pub decreases-loop-header : goal.decreases-loop-header
decreases-loop-header l = length l.text - l.stop
