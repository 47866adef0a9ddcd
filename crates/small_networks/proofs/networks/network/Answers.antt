use Rattle.std.proofs.Common.{rules, ◌≡◌, true, not, length}
use Rattle.std.specs.List.{list_all}
use Rattle.design_core.specs.Drives.{is_reg}
use Rattle.plain_list.specs.Assignments.{is_whole}
use Rattle.small_networks.proofs.AreNetworks.{of-assignments}
use Rattle.small_networks.proofs.networks.network.Goals as goal

pub is_network-requires-clause-assignments : goal.is_network-requires-clause-assignments
is_network-requires-clause-assignments c =
    let design = c.in_ok-ordered.ordered.design in
    let whole : list_all is_whole design.drivers.items ≡ true = search rules in
    let unclocked : length design.clocked.items ≡ 0 = search rules in
    let none : list_all (λ signal. not (is_reg signal.kind)) design.signals.items ≡ true = search rules in
    of-assignments design c.in_ok-ordered.ensures.once whole unclocked none
