use Rattle.design_core.specs.Drives.{part_drives}
use Rattle.std.specs.List.{list_any}
use Rattle.cycle_sim.proofs.Planning.{adds-all}
use Rattle.cycle_sim.proofs.Driving.{cont-parts}
use Rattle.cycle_sim.proofs.plan.driver_masks.Goals as goal

pub returns-in_ok-add_parts-in-Cont : goal.returns-in_ok-add_parts-in-Cont
returns-in_ok-add_parts-in-Cont c =
    let signals = c.args.design.now.signals.items in
    rw c.in-Cont.is
    (adds-all signals c.add_parts.new.row.items (λ s b. list_any (part_drives signals s b) c.in-Cont.target.parts)
    ((rw (c.deref.ensures.value, c.deref-in-Cont.ensures, c.new-row.ensures.items) at c.in_ok-add_parts-in-Cont.ensures)
    (cont-parts signals c.args.design.now.places.items c.in-Cont.target c.in-Cont.value c.in-Cont.place c.in-Cont.span
    (rw c.in-Cont.is at c.requires.fits))))
