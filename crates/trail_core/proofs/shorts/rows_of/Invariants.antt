use Rattle.std.proofs.Common.{◌≡◌, map, take}
use Rattle.trail_core.proofs.Flat.{listed_in}
use Rattle.trail_core.proofs.shorts.rows_of.Given as goal

abbrev pub invariant-loop-list : goal.invariant-loop-list
invariant-loop-list l = l.rows ≡ map listed_in (take l.list-index l.lists)
