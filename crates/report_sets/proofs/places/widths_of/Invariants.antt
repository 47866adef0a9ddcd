use Rattle.std.proofs.Common.{◌≡◌, map, take}
use Rattle.design_core.specs.Explained.{place_width}
use Rattle.report_sets.proofs.places.widths_of.Given as goal

abbrev pub invariant-loop-place : goal.invariant-loop-place
invariant-loop-place l = l.widths.items ≡ map (place_width l.design) (take l.place-index l.places)
