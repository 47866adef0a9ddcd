use Rattle.std.proofs.Common.{◌≡◌, drop}
use Rattle.changes.specs.Moments.{choice_in, values_in}
use Rattle.changes.specs.Execution.{first_executed, executed_driver}
use Rattle.changes.proofs.moment.in_drivers.Given as goal

abbrev pub invariant-loop-driver : goal.invariant-loop-driver
invariant-loop-driver l =
    let executes = executed_driver l.moment.design.now.signals.items (choice_in l.moment) (values_in l.moment) l.place in
    first_executed executes (drop l.driver-index l.moment.design.now.drivers.items)
    ≡ first_executed executes l.moment.design.now.drivers.items
