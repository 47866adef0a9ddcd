use Rattle.place_functions.specs.Operands.{driver_uses}
use Rattle.place_functions.proofs.NoteSteps.{each-more}
use Rattle.place_functions.proofs.note_places.note_drivers.Goals as goal

pub loop-driver-preserved : goal.loop-driver-preserved
loop-driver-preserved c =
    let S = c.args.signals.now in
    each-more _ _ _ (λ y p s k. driver_uses S p s k y) c.args.drivers.now c.loop-driver.driver-index c.driver-item.result c.loop-driver-test.true c.driver-item.is
    c.loop-driver.invariant c.in_ok-note_driver.ensures
