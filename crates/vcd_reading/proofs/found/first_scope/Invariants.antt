use Rattle.std.proofs.Common.{◌≡◌, map, None}
use Rattle.vcd_reading.specs.Header.{Header}
use Rattle.vcd_reading.specs.HeaderView.{variable_of}
use Rattle.vcd_reading.specs.PortView.{ports_in}
use Rattle.vcd_reading.specs.Scopes.{declares, least_below}
use Rattle.vcd_reading.specs.Found.{IsIndex}
use Rattle.vcd_reading.proofs.found.first_scope.Given as goal

abbrev pub invariant-loop-number : goal.invariant-loop-number
invariant-loop-number l =
    (h : Header) → h.variables ≡ map variable_of l.variables → IsIndex h.variables l.names → least_below (declares h (ports_in l.ports)) l.number ≡ None
