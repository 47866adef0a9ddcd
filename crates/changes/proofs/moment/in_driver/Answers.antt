use Rattle.loc_base.proofs.ShelfLists.{list_all-member}
use Rattle.design_core.specs.declared.design.Design.{Design}
use Rattle.design_core.specs.WellFormed.{driver_fits}
use Rattle.changes.proofs.MomentLaws.{cont-side}
use Rattle.changes.proofs.moment.in_driver.Goals as goal

pub in_assignment-requires-clause-side : goal.in_assignment-requires-clause-side
in_assignment-requires-clause-side c =
    let d : Design = c.args.moment.now.design.now in
    let fits = list_all-member
    (driver_fits d.signals.items d.places.items) d.drivers.items c.args.driver.now
    c.requires.moment.well_formed.drivers c.requires.driver in
    cont-side d c.args.place c.in-Cont.target c.in-Cont.side c.in-Cont.own c.in-Cont.span (rw c.in-Cont.is at fits)
