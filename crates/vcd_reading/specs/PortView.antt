-- What the ports show.
use Rattle.std.specs.Prelude.{ℕ, List, map}
use Rattle.std.specs.Borrow.{Bor}
use Rattle.std.specs.Option.{option_map}
use Rattle.vcd_reading.specs.declared.bits as bits
use Rattle.vcd_reading.specs.declared.ports as code
use Rattle.vcd_reading.specs.Bits.{BitName}
use Rattle.vcd_reading.specs.Scopes.{Port, Sought}

abbrev pub bit_of : bits.BitName.BitName → BitName
bit_of bit = record { name = bit.name.now; number = bit.number }

abbrev pub port_of : code.Port.Port → Port
port_of port = record { signal = port.signal; width = port.width; name = port.name.now; bit = option_map bit_of port.bit }

abbrev pub ports_in : List code.Port.Port → List Port
ports_in ports = map port_of ports

abbrev pub sought_of : code.Sought.Sought → Sought
sought_of sought = record { scope = option_map (λ (path : Bor (List ℕ)). path.now) sought.scope; ports = ports_in sought.ports.now }
