use Rattle.std.proofs.Common.{take}
use Rattle.std.specs.Prelude.{◌==◌, ◌&&◌}
use Rattle.std.specs.List.{list_any}
use Rattle.design_bits.specs.Masks.{Adds, has}
use Rattle.assign_rules.specs.UsedBy.{is_used_at}
use Rattle.assign_rules.proofs.races.add_used.Given as goal

abbrev pub invariant-loop-home : goal.invariant-loop-home
invariant-loop-home l =
    Adds l.initial.racing l.racing (λ h b. list_any (λ t. t == h) (take l.home-index l.home-items) && (has l.own h b && is_used_at l.table h l.number))
