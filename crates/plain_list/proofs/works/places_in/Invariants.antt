use Rattle.std.proofs.Common.{◌≡◌, take}
use Rattle.plain_list.specs.Groups.{places_in}
use Rattle.plain_list.proofs.works.places_in.Given as goal

abbrev pub invariant-loop-i : goal.invariant-loop-i
invariant-loop-i l = l.places.items ≡ places_in (take l.i l.members)
