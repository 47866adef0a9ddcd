use Rattle.std.proofs.Common.{◌≡◌, map, take}
use Rattle.suspect_map.proofs.numbered.numbers_of.Given as goal

abbrev pub invariant-loop-place : goal.invariant-loop-place
invariant-loop-place g l = l.numbers.items ≡ map g.N.Numbered.number (take l.place-index l.places)
