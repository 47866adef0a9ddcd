use Rattle.std.proofs.Common.{subst}
use Rattle.std.specs.List.{list_any}
use Rattle.design_bits.specs.Masks.{Adds}
use Rattle.design_rules.specs.Assignments.{connects}
use Rattle.assign_rules.proofs.WayLaws.{has-added}
use Rattle.assign_rules.proofs.assigned.connected_of.Goals as goal

pub returns : goal.returns
returns c =
    let d = c.args.design.now in
    let homes = c.args.homes.list.now in
    has-added c.in_ok-set.set c.add_connections.new.set c.args.homes.count (λ h. list_any (connects homes h) d.drivers.items) c.in_ok-set.ensures
    (subst (λ xs. Adds c.in_ok-set.set c.add_connections.new.set (λ h b. list_any (connects homes h) xs)) c.deref.ensures.value c.in_ok-add_connections.ensures)
