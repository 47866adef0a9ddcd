use Rattle.std.proofs.Common.{◌≡◌, ℕ, take}
use Rattle.design_core.specs.Explained.{is_one_of}
use Rattle.design_core.specs.Works.{places_of}
use Rattle.report_sets.specs.Reading.{groups_of}
use Rattle.report_sets.proofs.places.all_places.Given as goal

abbrev pub invariant-loop-member : goal.invariant-loop-member
invariant-loop-member l = (p : ℕ) → is_one_of l.places.items p ≡ places_of (groups_of l.groups) (take l.member-index l.members) p
