use Rattle.std.proofs.Common.{not, is_some, sym, ◌∙◌, ap}
use Rattle.vcd_reading.specs.PlaceView.{place_of}
use Rattle.vcd_reading.specs.PortView.{port_of}
use Rattle.vcd_reading.specs.Scopes.{Port, place_in}
use Rattle.vcd_reading.proofs.IndexLaws.{missing, present}
use Rattle.vcd_reading.proofs.PlaceLaws.{place_some}
use Rattle.vcd_reading.proofs.place.Scope.declares.Goals as goal

pub returns-then-is_none : goal.returns-then-is_none
returns-then-is_none c h is =
    sym (missing port_of (λ (port : Port). is_some (place_in h c.args.self.now.number port)) c.args.ports.now c.loop-port.port-index _ c.loop-port-test.true
    (ap is_some (sym (c.place.ensures h is)) ∙ place_some place_of c.place.result ∙ c.is_none.ensures ∙ ap not c.if-is_none.true))

pub loop-port-preserved : goal.loop-port-preserved
loop-port-preserved c h is =
    present port_of (λ (port : Port). is_some (place_in h c.args.self.now.number port)) c.args.ports.now c.loop-port.port-index _ c.loop-port-test.true
    (c.loop-port.invariant h is)
    (ap is_some (sym (c.place.ensures h is)) ∙ place_some place_of c.place.result ∙ c.is_none.ensures ∙ ap not c.if-is_none.false)
