use Rattle.std.proofs.Common.{◌≡◌, drop}
use Rattle.std.specs.List.{list_all}
use Rattle.plain_list.specs.Assignments.{is_whole}
use Rattle.small_networks.proofs.networks.are_whole.Given as goal

abbrev pub invariant-loop-driver : goal.invariant-loop-driver
invariant-loop-driver l = record {
  rest : list_all is_whole l.drivers ≡ list_all is_whole (drop l.driver-index l.drivers);
}
