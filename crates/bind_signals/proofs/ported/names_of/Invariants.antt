use Rattle.std.proofs.Common.{◌≡◌, ◌++◌, drop}
use Rattle.bind_signals.specs.Ported.{port_names}
use Rattle.bind_signals.specs.LoopNames.{named}
use Rattle.bind_signals.proofs.ported.names_of.Given as goal

abbrev pub invariant-loop-port : goal.invariant-loop-port
invariant-loop-port l = named l.names ++ port_names (drop l.port-index l.ports) ≡ port_names l.ports
