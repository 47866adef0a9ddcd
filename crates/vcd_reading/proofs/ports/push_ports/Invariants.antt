use Rattle.std.proofs.Common.{◌≡◌, ◌++◌, map, take}
use Rattle.vcd_reading.specs.Scopes.{port_at}
use Rattle.vcd_reading.specs.PortView.{port_of}
use Rattle.vcd_reading.proofs.ports.push_ports.Given as goal

abbrev pub invariant-loop-signal : goal.invariant-loop-signal
invariant-loop-signal l = map port_of l.ports.items ≡ map port_of l.initial.ports.items ++ map (port_at l.design) (take l.signal-index l.signals)
