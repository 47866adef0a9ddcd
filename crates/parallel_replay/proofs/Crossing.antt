-- Designs may be shared by threads. Each part is shown by itself: a search that goes down through all of them runs out of steps.
use denote.Param.Send.{IsSync, sendable}
use Rattle.std.proofs.Crossing.{Vec-sync, crosses}
use Rattle.std.proofs.option.Option.TheSendSync as option
use Rattle.loc_base.proofs.bits.Bits.TheSendSync as bits
use Rattle.loc_base.proofs.boxed.Boxed.TheSendSync as boxed
use Rattle.loc_base.proofs.items.Items.TheSendSync as items
use Rattle.loc_base.proofs.span.Span.TheSendSync as span
use Rattle.design_core.proofs.expression.BinaryOp.TheSendSync as binary
use Rattle.design_core.proofs.expression.UnaryOp.TheSendSync as unary
use Rattle.design_core.proofs.expression.Node.TheLaws.TheKnot as node
use Rattle.design_core.proofs.statement.Stmt.TheLaws.TheKnot as statement
use Rattle.design_core.specs.contracts.signal.Signal as Signal
use Rattle.design_core.specs.contracts.driver.Driver as Driver
use Rattle.design_core.specs.contracts.driver.Clocked as Clocked
use Rattle.design_core.specs.contracts.place.Place as Place
use Rattle.design_core.specs.contracts.design.Design as Design
use Rattle.design_core.specs.contracts.trace.Trace as Trace
use Rattle.design_core.specs.contracts.values.SetWithValues as SetWithValues

Signal-sync : IsSync Signal.the_row
Signal-sync = search (sendable, crosses) depth 20

Place-sync : IsSync Place.the_row
Place-sync = search (sendable, crosses) depth 20

pub Trace-sync : IsSync Trace.the_row
Trace-sync = search (sendable, crosses) depth 20

pub SetWithValues-sync : IsSync SetWithValues.the_row
SetWithValues-sync = search (sendable, crosses, items.the_sync) depth 50 fits 100000

ruleset parts = (
  sendable,
  crosses,
  option.the_sync,
  option.the_field_sync,
  bits.the_sync,
  bits.the_field_sync,
  boxed.the_sync,
  items.the_sync,
  span.the_sync,
  span.the_field_sync,
  binary.the_sync,
  binary.the_field_sync,
  unary.the_sync,
  unary.the_field_sync,
  node.crosses,
  statement.crosses,
)

Driver-sync : IsSync Driver.the_row
Driver-sync = search parts depth 50 fits 100000

Clocked-sync : IsSync Clocked.the_row
Clocked-sync = search parts depth 50 fits 100000

pub Design-sync : IsSync Design.the_row
Design-sync =
    let signals = Vec-sync Signal.the_row Signal-sync in
    let drivers = Vec-sync Driver.the_row Driver-sync in
    let clocked = Vec-sync Clocked.the_row Clocked-sync in
    let places = Vec-sync Place.the_row Place-sync in
    search (sendable, crosses) depth 20

pub ruleset crossing_rules = (Design-sync, SetWithValues-sync, Trace-sync)
