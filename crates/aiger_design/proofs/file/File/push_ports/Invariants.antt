use Rattle.std.proofs.Common.{◌≡◌, ◌≤◌, ◌-◌, ◌++◌, map}
use Rattle.std.specs.List.{range_with_len}
use Rattle.aiger_design.specs.Signals.{port_signal}
use Rattle.aiger_design.proofs.file.File.push_ports.Given as goal

abbrev pub invariant-loop-place : goal.invariant-loop-place
invariant-loop-place l = record {
  made : l.signals.items ≡ l.initial.signals.items ++ map (port_signal l.names l.of.kind) (range_with_len (l.of.from) (l.place - (l.of.from)));
  from : l.of.from ≤ l.place;
  few : l.place - (l.of.from) ≤ l.of.to - (l.of.from);
}
