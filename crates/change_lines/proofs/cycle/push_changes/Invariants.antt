use Rattle.std.proofs.Common.{◌≡◌, ◌++◌, map, take}
use Rattle.changes.specs.Moments.{choice_in, values_in}
use Rattle.change_lines.specs.Lines.{change_text, cycle_changes}
use Rattle.change_lines.specs.Telling.{site_in}
use Rattle.change_lines.proofs.cycle.push_changes.Given as goal

abbrev pub invariant-loop-place : goal.invariant-loop-place
invariant-loop-place l =
    l.lines.items ≡ l.initial.lines.items
    ++ map change_text (cycle_changes (site_in l.site) (choice_in l.site.moment) (values_in l.site.moment) (take l.place-index l.places))
