use Rattle.std.proofs.Common.{◌≡◌, map, drop}
use Rattle.std.specs.List.{list_all}
use Rattle.v_sizes.specs.Sizing.{is_chosen_by_constants}
use Rattle.v_selects.specs.Named.{chosen_in}
use Rattle.v_selects.proofs.name_size.are_constant.Given as goal

abbrev pub invariant-loop-one : goal.invariant-loop-one
invariant-loop-one l =
    list_all is_chosen_by_constants (map chosen_in (drop l.one-index l.chosen)) ≡ list_all is_chosen_by_constants (map chosen_in l.chosen)
