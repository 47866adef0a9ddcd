use Rattle.std.proofs.Common.{◌≡◌, ℕ, map, take, nat_eq}
use Rattle.suspect_map.specs.Grouping.{first_at, first_by, is_same, under}
use Rattle.suspect_map.proofs.firsts.firsts_by_number.Given as goal

abbrev pub invariant-loop-at : goal.invariant-loop-at
invariant-loop-at l =
    (l.firsts.items ≡ map (first_by nat_eq l.keys) (take l.at l.keys))
    × ((q : ℕ) → under l.table q ≡ first_at (is_same nat_eq q) 0 (take l.at l.keys))
