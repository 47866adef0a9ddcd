use Rattle.std.proofs.Common.{◌≡◌, ◌++◌, drop}
use Rattle.suspect_map.specs.Grouping.{led_from}
use Rattle.suspect_map.proofs.grouping.Grain.groups.Given as goal

abbrev pub invariant-loop-at : goal.invariant-loop-at
invariant-loop-at l =
    l.groups ++ led_from l.self.label l.self.kind.now l.firsts l.at (drop l.at l.self.places.now) (drop l.at l.firsts)
    ≡ led_from l.self.label l.self.kind.now l.firsts 0 l.self.places.now l.firsts
