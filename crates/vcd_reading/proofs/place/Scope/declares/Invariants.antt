use Rattle.std.proofs.Common.{◌≡◌, true, take}
use Rattle.vcd_reading.specs.Header.{Header}
use Rattle.vcd_reading.specs.PlaceView.{IsScope}
use Rattle.vcd_reading.specs.PortView.{ports_in}
use Rattle.vcd_reading.specs.Scopes.{declares}
use Rattle.vcd_reading.proofs.place.Scope.declares.Given as goal

abbrev pub invariant-loop-port : goal.invariant-loop-port
invariant-loop-port l = (h : Header) → IsScope h l.self → declares h (ports_in (take l.port-index l.ports)) l.self.number ≡ true
