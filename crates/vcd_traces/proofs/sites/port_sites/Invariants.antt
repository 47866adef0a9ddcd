use Rattle.std.proofs.Common.{take}
use Rattle.vcd_reading.specs.Header.{Header}
use Rattle.vcd_reading.specs.PortView.{ports_in, sought_of}
use Rattle.vcd_traces.specs.Sites.{IsFirst, AreSites}
use Rattle.vcd_traces.proofs.sites.port_sites.Given as goal

abbrev pub invariant-loop-port : goal.invariant-loop-port
invariant-loop-port l =
    (h : Header) → IsFirst h (sought_of l.sought) l.scope → AreSites h (sought_of l.sought) (ports_in (take l.port-index l.sought.ports.now)) l.sites.items
