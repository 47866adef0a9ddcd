use Rattle.std.proofs.Common.{true, subst}
use Rattle.std.specs.List.{list_any}
use Rattle.design_bits.specs.Masks.{Adds}
use Rattle.design_rules.specs.Assignments.{driver_sets}
use Rattle.assign_rules.specs.Ways.{by_way}
use Rattle.assign_rules.proofs.WayLaws.{has-added}
use Rattle.assign_rules.proofs.assigned.comb_arrows_of.Goals as goal

pub returns : goal.returns
returns c =
    let d = c.args.design.now in
    let homes = c.args.homes.list.now in
    has-added c.in_ok-set.set c.add_drivers.new.set c.args.homes.count (λ h. list_any (driver_sets (by_way true homes h)) d.drivers.items) c.in_ok-set.ensures
    (subst (λ xs. Adds c.in_ok-set.set c.add_drivers.new.set (λ h b. list_any (driver_sets (by_way true homes h)) xs)) c.deref.ensures.value c.in_ok-add_drivers.ensures)
