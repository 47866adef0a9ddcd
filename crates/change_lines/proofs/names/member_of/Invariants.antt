use Rattle.std.proofs.Common.{◌≡◌, drop, find, map}
use Rattle.design_core.specs.Works.{suspect_has}
use Rattle.change_lines.specs.Telling.{places_in}
use Rattle.change_lines.proofs.names.member_of.Given as goal

abbrev pub invariant-loop-member : goal.invariant-loop-member
invariant-loop-member l =
    find (suspect_has (map places_in l.groups) l.place) (drop l.member-index l.members)
    ≡ find (suspect_has (map places_in l.groups) l.place) l.members
