use Rattle.std.proofs.Common.{◌≡◌, ℕ, List, map, take, nat_eq}
use Rattle.std.specs.Cmp.Lexicographic.{pointwise}
use Rattle.loc_base.specs.NameTable.{number_of}
use Rattle.suspect_map.specs.Grouping.{first_at, first_by, is_same}
use Rattle.suspect_map.specs.Modules.{modules}
use Rattle.suspect_map.proofs.modules.firsts_by_module.Given as goal

abbrev pub invariant-loop-at : goal.invariant-loop-at
invariant-loop-at l =
    (l.firsts.items ≡ map (first_by (pointwise nat_eq) (map modules.key l.places)) (take l.at (map modules.key l.places)))
    × ((q : List ℕ) → number_of l.table q ≡ first_at (is_same (pointwise nat_eq) q) 0 (take l.at (map modules.key l.places)))
