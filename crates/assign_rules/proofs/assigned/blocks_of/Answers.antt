use Rattle.std.proofs.Common.{subst}
use Rattle.std.specs.List.{list_any}
use Rattle.design_bits.specs.Masks.{Adds}
use Rattle.design_rules.specs.Assignments.{driver_sets, clocked_sets}
use Rattle.assign_rules.specs.Ways.{by_way}
use Rattle.assign_rules.proofs.WayLaws.{has-both}
use Rattle.assign_rules.proofs.assigned.blocks_of.Goals as goal

pub returns : goal.returns
returns c =
    let d = c.args.design.now in
    let homes = c.args.homes.list.now in
    has-both c.in_ok-set.set c.add_drivers.new.set c.add_blocks.new.set c.args.homes.count (λ h. list_any (driver_sets (by_way c.args.way homes h)) d.drivers.items)
    (λ h. list_any (clocked_sets (by_way c.args.way homes h)) d.clocked.items) c.in_ok-set.ensures
    (subst (λ xs. Adds c.in_ok-set.set c.add_drivers.new.set (λ h b. list_any (driver_sets (by_way c.args.way homes h)) xs)) c.deref.ensures.value c.in_ok-add_drivers.ensures)
    (subst (λ xs. Adds c.add_drivers.new.set c.add_blocks.new.set (λ h b. list_any (clocked_sets (by_way c.args.way homes h)) xs)) c.deref-2.ensures.value c.in_ok-add_blocks.ensures)
